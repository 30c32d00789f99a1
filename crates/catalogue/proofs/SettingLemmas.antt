-- What is read of a cohort after an accepted edit: its targets, its share, its rollback and open flags.
use Rattle.std.proofs.Common.{◌≡◌, ℕ, Bool, true, false, cond, ◌&&◌, List, [], ◌∷◌, ◌++◌, find, Option, Some, None, refl, ap, sym, ◌∙◌}
use Rattle.std.specs.Option.{option_map, option_map_or, option_or, unwrap_or}
use Rattle.std.specs.Str.{bytes_eq}
use Rattle.std.proofs.lemmas.List.Folds.{find-append}
use Rattle.std.proofs.lemmas.Slice.Eq.{bytes_eq-Decides}
use Rattle.catalogue.specs.Versions.{lenient_version_of}
use Rattle.catalogue.proofs.Accepted.CohortSettings.{NamesCohort, TakesSetting}
use Rattle.catalogue.proofs.AppLemmas.{read_app-change, read_app-kept, read_app-push_none, read_app-same_id, read_app-then}
use Rattle.catalogue.proofs.FitLemmas.{Fits-accepted}
use Rattle.catalogue.proofs.ValidCohortLemmas.{name-with_setting}
use Rattle.values.proofs.LookupLemmas.{Some-from_list_any, find-change}
use Rattle.catalogue.specs.Changes.{Change, NewApp, NewCohort, NewDiff, NewRelease, SetsCohort, SetsRelease, changed, in_cohort, in_release, new_app, new_cohort, new_diff, new_release, with_cohort, with_diff, with_release, with_release_setting, with_setting}
use Rattle.values.specs.Lists.{change}
use Rattle.catalogue.specs.Edits.{after, change_of, fault_of}
use Rattle.catalogue.specs.Edits.CohortSettings.{setting_of_set_target}
use Rattle.catalogue.specs.Forms.{same_id}
use Rattle.catalogue.specs.Histories.{Targets, has_rollback, is_open, names_cohort, read_cohort, sets_open, sets_rollback, sets_share, sets_targets, share_of, targets_of}
use Rattle.catalogue.specs.Lookups.{cohorts_of, is_app, is_cohort}
use Rattle.catalogue.specs.declared.content.App.{App}
use Rattle.catalogue.specs.declared.content.Cohort.{Cohort}
use Rattle.catalogue.specs.declared.edit.Edit.{Edit}
use Rattle.catalogue.specs.declared.edit.Edit.TheVariants as edit
use Rattle.catalogue.specs.declared.edits.cohort_settings.CohortSetting.{CohortSetting}
use Rattle.catalogue.specs.declared.edits.cohort_settings.CohortSetting.TheVariants as setting

-- what a change sets of a cohort, and nothing if it sets something else
abbrev set_by : Change → Cohort → Cohort
set_by (SetsCohort id name new) cohort = with_setting new cohort
set_by c cohort = cohort

-- what is read of the found cohort, or the value if none is found
abbrev read_found : {A : Type 0} → (Cohort → A) → A → Option Cohort → A
read_found read none found = option_map_or read found none

-- what is read of the cohort of a name
abbrev read_in : {A : Type 0} → (Cohort → A) → A → List ℕ → List Cohort → A
read_in read none name cohorts = read_found read none (find (is_cohort name) cohorts)

-- a change of a cohort keeps its name
abbrev KeepsName : (Cohort → Cohort) → Type 0
KeepsName f = (cohort : Cohort) → (f cohort).name ≡ cohort.name

-- what is read of a cohort, and is `none` of every new one
module _ {A : Type 0} (read : Cohort → A) (none : A) (first : (name : List ℕ) → read (new_cohort name) ≡ none) where
  -- a new cohort has the first value, as one that is not there
  read_in-push :
      (name new : List ℕ) (cohorts : List Cohort) →
      read_in read none name (cohorts ++ new_cohort new ∷ []) ≡ read_in read none name cohorts
  read_in-push name new cohorts =
      ap (read_found read none) (find-append (is_cohort name) cohorts (new_cohort new ∷ []))
      ∙ cases (find (is_cohort name) cohorts) (bytes_eq name new)
    where
      cases :
          (o : Option Cohort) (b : Bool) →
          read_found read none (option_or o (cond b (Some (new_cohort new)) None)) ≡ read_found read none o
      cases None true = first new
      cases None false = refl
      cases (Some cohort) b = refl

  -- what a change of a cohort leaves is what was read
  read_in-kept :
      (f : Cohort → Cohort) →
      KeepsName f →
      ((cohort : Cohort) → read (f cohort) ≡ read cohort) →
      (name changed : List ℕ) (cohorts : List Cohort) →
      read_in read none name (change (is_cohort changed) f cohorts) ≡ read_in read none name cohorts
  read_in-kept f kept same name changed cohorts =
      ap (read_found read none) (find-change (λ (c : Cohort). c.name) f kept name changed cohorts)
      ∙ cases (bytes_eq name changed) (find (is_cohort name) cohorts)
    where
      cases : (b : Bool) (o : Option Cohort) → read_found read none (cond b (option_map f o) o) ≡ read_found read none o
      cases true None = refl
      cases true (Some cohort) = same cohort
      cases false o = refl

  -- the named cohort, which is there, has what is set, any other what it had
  read_in-set :
      (f : Cohort → Cohort) →
      KeepsName f →
      (value : A) →
      ((cohort : Cohort) → read (f cohort) ≡ value) →
      (name changed : List ℕ) (cohorts : List Cohort) (cohort : Cohort) →
      find (is_cohort changed) cohorts ≡ Some cohort →
      read_in read none name (change (is_cohort changed) f cohorts) ≡ cond (bytes_eq name changed) value (read_in read none name cohorts)
  read_in-set f kept value sets name changed cohorts cohort found =
      ap (read_found read none) (find-change (λ (c : Cohort). c.name) f kept name changed cohorts)
      ∙ cases (bytes_eq name changed) refl
    where
      cases :
          (b : Bool) →
          bytes_eq name changed ≡ b →
          read_found read none (cond b (option_map f (find (is_cohort name) cohorts)) (find (is_cohort name) cohorts)) ≡ cond b value (read_in read none name cohorts)
      cases true same =
          let decides = bytes_eq-Decides name changed in
          ap (λ (n : List ℕ). read_found read none (option_map f (find (is_cohort n) cohorts))) (decides.0 same)
          ∙ ap (λ (o : Option Cohort). read_found read none (option_map f o)) found
          ∙ sets cohort
      cases false other = refl

  -- a change of an app that leaves what is read in it
  read_cohort-kept :
      (f : App → App) →
      ((app : App) → (f app).id ≡ app.id) →
      (name : List ℕ) →
      ((app : App) → read_in read none name (f app).cohorts ≡ read_in read none name app.cohorts) →
      (apps : List App) (id changed : List ℕ) →
      read_cohort read none (change (is_app changed) f apps) id name ≡ read_cohort read none apps id name
  read_cohort-kept f kept name same apps id changed =
      read_app-then (read_in read none name) (λ app. app.cohorts) [] (change (is_app changed) f apps) id
      ∙ read_app-kept (λ app. read_in read none name app.cohorts) none f kept same apps id changed
      ∙ sym (read_app-then (read_in read none name) (λ app. app.cohorts) [] apps id)

  -- a change that leaves what is read of a cohort
  read_cohort-left :
      (c : Change) → ((cohort : Cohort) → read (set_by c cohort) ≡ read cohort) →
      (apps : List App) (id name : List ℕ) →
      read_cohort read none (changed c apps) id name ≡ read_cohort read none apps id name
  read_cohort-left (NewApp e) left apps id name =
      read_app-then (read_in read none name) (λ app. app.cohorts) [] (changed (NewApp e) apps) id
      ∙ read_app-push_none (λ app. read_in read none name app.cohorts) none apps (new_app e) id (read_in-push name e.default [])
      ∙ sym (read_app-then (read_in read none name) (λ app. app.cohorts) [] apps id)
  read_cohort-left (NewRelease e) left apps id name =
      read_cohort-kept (with_release (new_release e)) (λ app. refl) name (λ app. refl) apps id e.app
  read_cohort-left (NewCohort e) left apps id name =
      read_cohort-kept (with_cohort (new_cohort e.cohort)) (λ app. refl) name (λ app. read_in-push name e.cohort app.cohorts) apps id e.app
  read_cohort-left (NewDiff e) left apps id name =
      read_cohort-kept (with_diff (new_diff e)) (λ app. refl) name (λ app. refl) apps id e.app
  read_cohort-left (SetsRelease changed_id version new) left apps id name =
      read_cohort-kept (in_release version (with_release_setting new)) (λ app. refl) name (λ app. refl) apps id changed_id
  read_cohort-left (SetsCohort changed_id changed_name new) left apps id name =
      read_cohort-kept (in_cohort changed_name (with_setting new)) (λ app. refl) name
      (λ app. read_in-kept (with_setting new) (name-with_setting new) left name changed_name app.cohorts) apps id changed_id

  -- the change that sets it
  read_cohort-set :
      (new : CohortSetting) (value : A) → ((cohort : Cohort) → read (with_setting new cohort) ≡ value) →
      (apps : List App) (id name changed_id changed_name : List ℕ) →
      TakesSetting apps changed_id changed_name new →
      read_cohort read none (changed (SetsCohort changed_id changed_name new) apps) id name
      ≡ unwrap_or (cond (names_cohort id name changed_id changed_name) (Some value) None) (read_cohort read none apps id name)
  read_cohort-set new value sets apps id name changed_id changed_name takes =
      ap (read_in read none name)
      (read_app-change (λ app. app.cohorts) [] (in_cohort changed_name f) (λ app. refl) apps id changed_id names.app names.found)
      ∙ cases (same_id id changed_id) refl
    where
      f : Cohort → Cohort
      f = with_setting new

      names : NamesCohort apps changed_id changed_name
      names = takes.names

      set_or_kept :
          (b : Bool) →
          cond b value (read_cohort read none apps id name)
          ≡ unwrap_or (cond b (Some value) None) (read_cohort read none apps id name)
      set_or_kept true = refl
      set_or_kept false = refl

      cases :
          (b : Bool) → same_id id changed_id ≡ b →
          read_in read none name (cond b (change (is_cohort changed_name) f names.app.cohorts) (cohorts_of apps id))
          ≡ unwrap_or (cond (b && bytes_eq name changed_name) (Some value) None) (read_cohort read none apps id name)
      cases true same =
          let some = Some-from_list_any (is_cohort changed_name) names.app.cohorts names.there in
          read_in-set f (name-with_setting new) value sets name changed_name names.app.cohorts some.0 some.1
          ∙ ap (λ (old : List Cohort). cond (bytes_eq name changed_name) value (read_in read none name old))
          (sym (read_app-same_id (λ app. app.cohorts) [] apps id changed_id names.app same names.found))
          ∙ set_or_kept (bytes_eq name changed_name)
      cases false other = refl

-- the targets of a cohort
abbrev targets : Cohort → Targets
targets cohort = (cohort.target, cohort.held)

-- a cohort's targets are those that the edit sets for it, else those that it had
pub targets_of-after :
    (id name : List ℕ) (apps : List App) (e : Edit) → fault_of apps e ≡ None →
    targets_of (after apps e) id name ≡ unwrap_or (sets_targets id name e) (targets_of apps id name)
targets_of-after id name apps (edit.SetTarget e) accepted =
    read_cohort-set targets (None, None) (λ new. refl) (setting_of_set_target e)
    (option_map lenient_version_of e.target, option_map lenient_version_of e.held) (λ cohort. refl)
    apps id name e.app e.cohort (Fits-accepted apps (edit.SetTarget e) accepted)
targets_of-after id name apps e accepted =
    read_cohort-left targets (None, None) (λ new. refl) (change_of e) (λ cohort. refl) apps id name

-- the share of a cohort
abbrev share : Cohort → ℕ
share cohort = cohort.share

-- a cohort's share is the one that the edit sets for it, else the one that it had
pub share_of-after :
    (id name : List ℕ) (apps : List App) (e : Edit) → fault_of apps e ≡ None →
    share_of (after apps e) id name ≡ unwrap_or (sets_share id name e) (share_of apps id name)
share_of-after id name apps (edit.SetShare e) accepted =
    read_cohort-set share 1000 (λ new. refl) (setting.Share e.share) e.share (λ cohort. refl)
    apps id name e.app e.cohort (Fits-accepted apps (edit.SetShare e) accepted)
share_of-after id name apps e accepted =
    read_cohort-left share 1000 (λ new. refl) (change_of e) (λ cohort. refl) apps id name

-- the rollback flag of a cohort
abbrev rollback_flag : Cohort → Bool
rollback_flag cohort = cohort.rollback

-- a cohort's rollback flag is the one that the edit sets for it, else the one that it had
pub has_rollback-after :
    (id name : List ℕ) (apps : List App) (e : Edit) → fault_of apps e ≡ None →
    has_rollback (after apps e) id name ≡ unwrap_or (sets_rollback id name e) (has_rollback apps id name)
has_rollback-after id name apps (edit.SetRollback e) accepted =
    read_cohort-set rollback_flag false (λ new. refl) (setting.Rollback e.on) e.on (λ cohort. refl)
    apps id name e.app e.cohort (Fits-accepted apps (edit.SetRollback e) accepted)
has_rollback-after id name apps e accepted =
    read_cohort-left rollback_flag false (λ new. refl) (change_of e) (λ cohort. refl) apps id name

-- the open flag of a cohort
abbrev open_flag : Cohort → Bool
open_flag cohort = cohort.hintable

-- a cohort's open flag is the one that the edit sets for it, else the one that it had
pub is_open-after :
    (id name : List ℕ) (apps : List App) (e : Edit) → fault_of apps e ≡ None →
    is_open (after apps e) id name ≡ unwrap_or (sets_open id name e) (is_open apps id name)
is_open-after id name apps (edit.SetOpen e) accepted =
    read_cohort-set open_flag false (λ new. refl) (setting.Open e.on) e.on (λ cohort. refl)
    apps id name e.app e.cohort (Fits-accepted apps (edit.SetOpen e) accepted)
is_open-after id name apps e accepted =
    read_cohort-left open_flag false (λ new. refl) (change_of e) (λ cohort. refl) apps id name
