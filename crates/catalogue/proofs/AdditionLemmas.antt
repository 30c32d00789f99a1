-- Whether an app, a release, a cohort or a differential is there after a change, by the kind of change.
use Rattle.std.proofs.Common.{◌≡◌, ℕ, Bool, true, false, cond, ◌&&◌, ◌||◌, List, [], ◌∷◌, ◌++◌, Option, Some, None, refl, ap, sym, ◌∙◌}
use Rattle.std.proofs.Math.Bool.{or-false}
use Rattle.std.specs.List.{list_any}
use Rattle.std.specs.Option.{option_map_or}
use Rattle.std.specs.Str.{bytes_eq}
use Rattle.std.proofs.lemmas.List.Folds.{list_any-append}
use Rattle.catalogue.proofs.Accepted.Cohorts.{TakesCohort}
use Rattle.catalogue.proofs.Accepted.Diffs.{TakesDiff}
use Rattle.catalogue.proofs.Accepted.Releases.{TakesRelease}
use Rattle.catalogue.proofs.AppLemmas.{app_of-same_id, read_app-change, read_app-kept, read_app-push, read_app-push_none, read_app-same_id, read_app-then}
use Rattle.values.proofs.ChangedLemmas.{list_any-change}
use Rattle.catalogue.proofs.FitLemmas.{Fits, Fits-accepted}
use Rattle.catalogue.proofs.ValidCohortLemmas.{name-with_setting}
use Rattle.values.proofs.InsertedLemmas.{list_any-Inserts}
use Rattle.values.proofs.InsertionLemmas.{Inserts-insert, Inserts-push}
use Rattle.catalogue.specs.Changes.{Change, NewApp, NewCohort, NewDiff, NewRelease, SetsCohort, SetsRelease, changed, in_cohort, in_release, new_app, new_cohort, new_diff, new_release, placed, placed_diff, with_cohort, with_diff, with_release, with_release_setting, with_setting}
use Rattle.values.specs.Lists.{change}
use Rattle.catalogue.specs.Edits.{after, change_of, fault_of}
use Rattle.catalogue.specs.Forms.{same_id}
use Rattle.catalogue.specs.Histories.{adds_app, adds_cohort, adds_diff, adds_release, same_diff, same_release}
use Rattle.catalogue.specs.Lookups.{app_of, cohorts_of, diffs_of, has_cohort, is_app, is_cohort, is_release, pair_of, place_of, place_of_pair, releases_of}
use Rattle.catalogue.specs.declared.content.App.{App}
use Rattle.catalogue.specs.declared.content.Cohort.{Cohort}
use Rattle.catalogue.specs.declared.content.Diff.{Diff}
use Rattle.catalogue.specs.declared.content.Release.{Release}
use Rattle.catalogue.specs.declared.edit.Edit.{Edit}
use Rattle.catalogue.specs.declared.edit.Edit.TheVariants as edit
use Rattle.catalogue.specs.declared.edits.release_settings.ReleaseSetting.{ReleaseSetting}
use Rattle.catalogue.specs.declared.edits.release_settings.ReleaseSetting.TheVariants as setting

-- the change brings an app of the identifier
abbrev brings_app : List ℕ → Change → Bool
brings_app id (NewApp e) = same_id id e.app
brings_app id c = false

-- where the change of an app keeps identifiers, an app is there if it was
any_app-kept :
    (id changed : List ℕ) (f : App → App) → ((app : App) → (f app).id ≡ app.id) →
    (apps : List App) →
    list_any (is_app id) (change (is_app changed) f apps) ≡ (list_any (is_app id) apps || false)
any_app-kept id changed f kept apps =
    list_any-change (is_app changed) f (is_app id) (λ app. ap (same_id id) (kept app)) apps
    ∙ sym (or-false (list_any (is_app id) apps))

-- an app is there if it was, or if the change brings it
any_app-changed :
    (id : List ℕ) (apps : List App) (c : Change) →
    list_any (is_app id) (changed c apps) ≡ (list_any (is_app id) apps || brings_app id c)
any_app-changed id apps (NewApp e) =
    list_any-append (is_app id) apps (new_app e ∷ [])
    ∙ ap (λ b. list_any (is_app id) apps || b) (or-false (same_id id e.app))
any_app-changed id apps (NewRelease e) =
    any_app-kept id e.app (with_release (new_release e)) (λ app. refl) apps
any_app-changed id apps (NewCohort e) =
    any_app-kept id e.app (with_cohort (new_cohort e.cohort)) (λ app. refl) apps
any_app-changed id apps (NewDiff e) = any_app-kept id e.app (with_diff (new_diff e)) (λ app. refl) apps
any_app-changed id apps (SetsRelease other version new) =
    any_app-kept id other (in_release version (with_release_setting new)) (λ app. refl) apps
any_app-changed id apps (SetsCohort other name new) =
    any_app-kept id other (in_cohort name (with_setting new)) (λ app. refl) apps

pub any_app-after :
    (id : List ℕ) (apps : List App) (e : Edit) → fault_of apps e ≡ None →
    list_any (is_app id) (after apps e) ≡ (list_any (is_app id) apps || adds_app id e)
any_app-after id apps (edit.AddApp e) accepted = any_app-changed id apps (NewApp e)
any_app-after id apps e accepted = any_app-changed id apps (change_of e)

-- a setting leaves what of a release was added
same_release-with_release_setting :
    (release : Release) (new : ReleaseSetting) (old : Release) →
    same_release release (with_release_setting new old) ≡ same_release release old
same_release-with_release_setting release (setting.Stone on) old = refl
same_release-with_release_setting release (setting.Withdrawn on) old = refl
same_release-with_release_setting release (setting.Audience names) old = refl
same_release-with_release_setting release (setting.Floor floor) old = refl

-- the change brings such a release to the app of the identifier
abbrev brings_release : List ℕ → Release → Change → Bool
brings_release id release (NewRelease e) = same_id id e.app && same_release release (new_release e)
brings_release id release c = false

-- where the change of an app keeps which releases it has, a release is there if it was
any_release-kept :
    (id changed : List ℕ) (release : Release) (f : App → App) →
    ((app : App) → (f app).id ≡ app.id) →
    ((app : App) → list_any (same_release release) (f app).releases ≡ list_any (same_release release) app.releases) →
    (apps : List App) →
    list_any (same_release release) (releases_of (change (is_app changed) f apps) id)
    ≡ (list_any (same_release release) (releases_of apps id) || false)
any_release-kept id changed release f kept same apps =
    read_app-then (list_any (same_release release)) (λ app. app.releases) [] (change (is_app changed) f apps) id
    ∙ read_app-kept (λ app. list_any (same_release release) app.releases) false f kept same apps id changed
    ∙ sym (read_app-then (list_any (same_release release)) (λ app. app.releases) [] apps id)
    ∙ sym (or-false (list_any (same_release release) (releases_of apps id)))

-- a release is there if it was, or if the change brings it
any_release-changed :
    (id : List ℕ) (release : Release) (apps : List App) (c : Change) → Fits apps c →
    list_any (same_release release) (releases_of (changed c apps) id)
    ≡ (list_any (same_release release) (releases_of apps id) || brings_release id release c)
any_release-changed id release apps (NewApp e) takes =
    ap (list_any (same_release release)) (read_app-push_none (λ app. app.releases) [] apps (new_app e) id refl)
    ∙ sym (or-false (list_any (same_release release) (releases_of apps id)))
any_release-changed id release apps (NewRelease e) takes =
    ap (list_any (same_release release))
    (read_app-change (λ app. app.releases) [] (with_release (new_release e)) (λ app. refl) apps id e.app takes.app takes.found)
    ∙ cases takes (same_id id e.app) refl
  where
    cases :
        (takes : TakesRelease apps e) (b : Bool) → same_id id e.app ≡ b →
        list_any (same_release release) (cond b (placed (new_release e) takes.app.releases) (releases_of apps id))
        ≡ (list_any (same_release release) (releases_of apps id)
        || (b && same_release release (new_release e)))
    cases takes true same =
        let releases = takes.app.releases in
        let new = new_release e in
        list_any-Inserts (same_release release) new releases (placed new releases)
        (Inserts-insert releases (place_of new.version releases) new)
        ∙ ap (λ (old : List Release). list_any (same_release release) old || same_release release new)
        (sym (read_app-same_id (λ app. app.releases) [] apps id e.app takes.app same takes.found))
    cases takes false other = sym (or-false (list_any (same_release release) (releases_of apps id)))
any_release-changed id release apps (NewCohort e) takes =
    any_release-kept id e.app release (with_cohort (new_cohort e.cohort)) (λ app. refl) (λ app. refl) apps
any_release-changed id release apps (NewDiff e) takes =
    any_release-kept id e.app release (with_diff (new_diff e)) (λ app. refl) (λ app. refl) apps
any_release-changed id release apps (SetsRelease other version new) takes =
    any_release-kept id other release (in_release version (with_release_setting new)) (λ app. refl)
    (λ app. list_any-change (is_release version) (with_release_setting new) (same_release release)
    (same_release-with_release_setting release new) app.releases) apps
any_release-changed id release apps (SetsCohort other name new) takes =
    any_release-kept id other release (in_cohort name (with_setting new)) (λ app. refl) (λ app. refl) apps

pub any_release-after :
    (id : List ℕ) (release : Release) (apps : List App) (e : Edit) → fault_of apps e ≡ None →
    list_any (same_release release) (releases_of (after apps e) id)
    ≡ (list_any (same_release release) (releases_of apps id) || adds_release id release e)
any_release-after id release apps (edit.AddRelease e) accepted =
    any_release-changed id release apps (NewRelease e) (Fits-accepted apps (edit.AddRelease e) accepted)
any_release-after id release apps e accepted =
    any_release-changed id release apps (change_of e) (Fits-accepted apps e accepted)

-- the change brings a cohort of the name to the app of the identifier
abbrev brings_cohort : List ℕ → List ℕ → Change → Bool
brings_cohort id name (NewApp e) = same_id id e.app && bytes_eq name e.default
brings_cohort id name (NewCohort e) = same_id id e.app && bytes_eq name e.cohort
brings_cohort id name c = false

-- where the change of an app keeps the names of its cohorts, a cohort is there if it was
any_cohort-kept :
    (id name changed : List ℕ) (f : App → App) → ((app : App) → (f app).id ≡ app.id) →
    ((app : App) → has_cohort (f app).cohorts name ≡ has_cohort app.cohorts name) →
    (apps : List App) →
    has_cohort (cohorts_of (change (is_app changed) f apps) id) name
    ≡ (has_cohort (cohorts_of apps id) name || false)
any_cohort-kept id name changed f kept same apps =
    read_app-then (list_any (is_cohort name)) (λ app. app.cohorts) [] (change (is_app changed) f apps) id
    ∙ read_app-kept (λ app. has_cohort app.cohorts name) false f kept same apps id changed
    ∙ sym (read_app-then (list_any (is_cohort name)) (λ app. app.cohorts) [] apps id)
    ∙ sym (or-false (has_cohort (cohorts_of apps id) name))

-- a cohort is there if it was, or if the change brings it
any_cohort-changed :
    (id name : List ℕ) (apps : List App) (c : Change) → Fits apps c →
    has_cohort (cohorts_of (changed c apps) id) name
    ≡ (has_cohort (cohorts_of apps id) name || brings_cohort id name c)
any_cohort-changed id name apps (NewApp e) takes =
    ap (list_any (is_cohort name)) (read_app-push (λ app. app.cohorts) [] apps (new_app e) id)
    ∙ cases (app_of apps id) (same_id id e.app) (λ same. app_of-same_id apps id e.app same ∙ takes.new_app)
  where
    cases :
        (o : Option App) (b : Bool) → (b ≡ true → o ≡ None) →
        list_any (is_cohort name) (option_map_or (λ app. app.cohorts) o (cond b (new_cohort e.default ∷ []) []))
        ≡ (list_any (is_cohort name) (option_map_or (λ app. app.cohorts) o [])
        || (b && bytes_eq name e.default))
    cases None true fresh = or-false (bytes_eq name e.default)
    cases None false fresh = refl
    cases (Some app) true fresh = let clash = fresh refl in absurd cc
    cases (Some app) false fresh = sym (or-false (list_any (is_cohort name) app.cohorts))
any_cohort-changed id name apps (NewRelease e) takes =
    any_cohort-kept id name e.app (with_release (new_release e)) (λ app. refl) (λ app. refl) apps
any_cohort-changed id name apps (NewCohort e) takes =
    ap (list_any (is_cohort name))
    (read_app-change (λ app. app.cohorts) [] (with_cohort (new_cohort e.cohort)) (λ app. refl) apps id e.app takes.app takes.found)
    ∙ cases takes (same_id id e.app) refl
  where
    cases :
        (takes : TakesCohort apps e) (b : Bool) → same_id id e.app ≡ b →
        list_any (is_cohort name) (cond b (takes.app.cohorts ++ new_cohort e.cohort ∷ []) (cohorts_of apps id))
        ≡ (has_cohort (cohorts_of apps id) name || (b && bytes_eq name e.cohort))
    cases takes true same =
        let cohorts = takes.app.cohorts in
        let new = new_cohort e.cohort in
        list_any-Inserts (is_cohort name) new cohorts (cohorts ++ new ∷ []) (Inserts-push cohorts new)
        ∙ ap (λ (old : List Cohort). has_cohort old name || bytes_eq name e.cohort)
        (sym (read_app-same_id (λ app. app.cohorts) [] apps id e.app takes.app same takes.found))
    cases takes false other = sym (or-false (has_cohort (cohorts_of apps id) name))
any_cohort-changed id name apps (NewDiff e) takes =
    any_cohort-kept id name e.app (with_diff (new_diff e)) (λ app. refl) (λ app. refl) apps
any_cohort-changed id name apps (SetsRelease other version new) takes =
    any_cohort-kept id name other (in_release version (with_release_setting new)) (λ app. refl) (λ app. refl) apps
any_cohort-changed id name apps (SetsCohort other changed_name new) takes =
    any_cohort-kept id name other (in_cohort changed_name (with_setting new)) (λ app. refl)
    (λ app. list_any-change (is_cohort changed_name) (with_setting new) (is_cohort name)
    (λ cohort. ap (bytes_eq name) (name-with_setting new cohort)) app.cohorts) apps

pub any_cohort-after :
    (id name : List ℕ) (apps : List App) (e : Edit) → fault_of apps e ≡ None →
    has_cohort (cohorts_of (after apps e) id) name
    ≡ (has_cohort (cohorts_of apps id) name || adds_cohort id name e)
any_cohort-after id name apps (edit.AddApp e) accepted =
    any_cohort-changed id name apps (NewApp e) (Fits-accepted apps (edit.AddApp e) accepted)
any_cohort-after id name apps (edit.AddCohort e) accepted =
    any_cohort-changed id name apps (NewCohort e) (Fits-accepted apps (edit.AddCohort e) accepted)
any_cohort-after id name apps e accepted =
    any_cohort-changed id name apps (change_of e) (Fits-accepted apps e accepted)

-- the change brings such a differential to the app of the identifier
abbrev brings_diff : List ℕ → Diff → Change → Bool
brings_diff id diff (NewDiff e) = same_id id e.app && same_diff diff (new_diff e)
brings_diff id diff c = false

-- where the change of an app keeps its differentials, a differential is there if it was
any_diff-kept :
    (id changed : List ℕ) (diff : Diff) (f : App → App) →
    ((app : App) → (f app).id ≡ app.id) → ((app : App) → (f app).diffs ≡ app.diffs) →
    (apps : List App) →
    list_any (same_diff diff) (diffs_of (change (is_app changed) f apps) id)
    ≡ (list_any (same_diff diff) (diffs_of apps id) || false)
any_diff-kept id changed diff f kept same apps =
    ap (list_any (same_diff diff)) (read_app-kept (λ app. app.diffs) [] f kept same apps id changed)
    ∙ sym (or-false (list_any (same_diff diff) (diffs_of apps id)))

-- a differential is there if it was, or if the change brings it
any_diff-changed :
    (id : List ℕ) (diff : Diff) (apps : List App) (c : Change) → Fits apps c →
    list_any (same_diff diff) (diffs_of (changed c apps) id)
    ≡ (list_any (same_diff diff) (diffs_of apps id) || brings_diff id diff c)
any_diff-changed id diff apps (NewApp e) takes =
    ap (list_any (same_diff diff)) (read_app-push_none (λ app. app.diffs) [] apps (new_app e) id refl)
    ∙ sym (or-false (list_any (same_diff diff) (diffs_of apps id)))
any_diff-changed id diff apps (NewRelease e) takes =
    any_diff-kept id e.app diff (with_release (new_release e)) (λ app. refl) (λ app. refl) apps
any_diff-changed id diff apps (NewDiff e) takes =
    ap (list_any (same_diff diff))
    (read_app-change (λ app. app.diffs) [] (with_diff (new_diff e)) (λ app. refl) apps id e.app takes.app takes.found)
    ∙ cases takes (same_id id e.app) refl
  where
    cases :
        (takes : TakesDiff apps e) (b : Bool) → same_id id e.app ≡ b →
        list_any (same_diff diff) (cond b (placed_diff (new_diff e) takes.app.diffs) (diffs_of apps id))
        ≡ (list_any (same_diff diff) (diffs_of apps id) || (b && same_diff diff (new_diff e)))
    cases takes true same =
        let diffs = takes.app.diffs in
        let new = new_diff e in
        list_any-Inserts (same_diff diff) new diffs (placed_diff new diffs)
        (Inserts-insert diffs (place_of_pair (pair_of new) diffs) new)
        ∙ ap (λ (old : List Diff). list_any (same_diff diff) old || same_diff diff new)
        (sym (read_app-same_id (λ app. app.diffs) [] apps id e.app takes.app same takes.found))
    cases takes false other = sym (or-false (list_any (same_diff diff) (diffs_of apps id)))
any_diff-changed id diff apps (NewCohort e) takes =
    any_diff-kept id e.app diff (with_cohort (new_cohort e.cohort)) (λ app. refl) (λ app. refl) apps
any_diff-changed id diff apps (SetsRelease other version new) takes =
    any_diff-kept id other diff (in_release version (with_release_setting new)) (λ app. refl) (λ app. refl) apps
any_diff-changed id diff apps (SetsCohort other name new) takes =
    any_diff-kept id other diff (in_cohort name (with_setting new)) (λ app. refl) (λ app. refl) apps

pub any_diff-after :
    (id : List ℕ) (diff : Diff) (apps : List App) (e : Edit) → fault_of apps e ≡ None →
    list_any (same_diff diff) (diffs_of (after apps e) id)
    ≡ (list_any (same_diff diff) (diffs_of apps id) || adds_diff id diff e)
any_diff-after id diff apps (edit.AddDiff e) accepted =
    any_diff-changed id diff apps (NewDiff e) (Fits-accepted apps (edit.AddDiff e) accepted)
any_diff-after id diff apps e accepted =
    any_diff-changed id diff apps (change_of e) (Fits-accepted apps e accepted)
