-- What is read of a release after an accepted edit: its stone and withdrawn flags, its audience, its
-- floor.
use Rattle.std.proofs.Common.{◌≡◌, ℕ, Bool, true, false, cond, ◌&&◌, List, [], find, Option, Some, None, refl, ap, sym, ◌∙◌}
use Rattle.std.specs.List.{list_any}
use Rattle.std.specs.Option.{option_map, option_map_or, unwrap_or}
use Rattle.std.specs.Str.{bytes_eq}
use Rattle.std.proofs.lemmas.Slice.Eq.{bytes_eq-Decides}
use Rattle.catalogue.specs.Versions.{lenient_version_of, zero_version}
use Rattle.catalogue.proofs.Accepted.ReleaseSettings.{NamesRelease, TakesReleaseSetting}
use Rattle.catalogue.proofs.Accepted.Releases.{TakesRelease}
use Rattle.catalogue.proofs.AppLemmas.{read_app-change, read_app-kept, read_app-push_none, read_app-same_id, read_app-then}
use Rattle.catalogue.proofs.FitLemmas.{Fits, Fits-accepted}
use Rattle.catalogue.proofs.ValidReleaseLemmas.{version-with_release_setting}
use Rattle.values.proofs.InsertionLemmas.{Inserts-insert}
use Rattle.values.proofs.LookupLemmas.{Some-from_list_any, find-change}
use Rattle.values.proofs.ReadLemmas.{read_found, read_found-Inserts}
use Rattle.catalogue.specs.Changes.{Change, NewApp, NewCohort, NewDiff, NewRelease, SetsCohort, SetsRelease, changed, in_cohort, in_release, new_app, new_cohort, new_diff, new_release, placed, with_cohort, with_diff, with_release, with_release_setting, with_setting}
use Rattle.values.specs.Lists.{change}
use Rattle.catalogue.specs.Edits.{after, change_of, fault_of}
use Rattle.catalogue.specs.Forms.{same_id}
use Rattle.catalogue.specs.Histories.{audience_of, floor_of, is_stone, is_withdrawn, names_release, read_release, sets_audience, sets_floor, sets_stone, sets_withdrawn}
use Rattle.catalogue.specs.Lookups.{app_of, is_app, is_release, place_of, releases_of}
use Rattle.catalogue.specs.declared.content.App.{App}
use Rattle.catalogue.specs.declared.content.Release.{Release}
use Rattle.catalogue.specs.declared.edit.Edit.{Edit}
use Rattle.catalogue.specs.declared.edit.Edit.TheVariants as edit
use Rattle.catalogue.specs.declared.edits.release_settings.ReleaseSetting.{ReleaseSetting}
use Rattle.catalogue.specs.declared.edits.release_settings.ReleaseSetting.TheVariants as setting
use Rattle.catalogue.specs.declared.edits.releases.AddRelease.{AddRelease}

-- what a change sets of a release, and nothing if it sets something else
abbrev set_by : Change → Release → Release
set_by (SetsRelease id version new) release = with_release_setting new release
set_by c release = release

-- what is read of the release of a version
abbrev read_in : {A : Type 0} → (Release → A) → A → List ℕ → List Release → A
read_in read none version releases = read_found read none (is_release version) releases

-- a change of a release keeps its version
abbrev KeepsVersion : (Release → Release) → Type 0
KeepsVersion f = (release : Release) → (f release).version ≡ release.version

-- what is read of a release, and is `none` of every new one
module _ {A : Type 0} (read : Release → A) (none : A) (first : (e : AddRelease) → read (new_release e) ≡ none) where
  -- what a change of a release leaves is what was read
  read_in-kept :
      (f : Release → Release) → KeepsVersion f → ((release : Release) → read (f release) ≡ read release) →
      (version changed : List ℕ) (releases : List Release) →
      read_in read none version (change (is_release changed) f releases) ≡ read_in read none version releases
  read_in-kept f kept same version changed releases =
      ap (λ (o : Option Release). option_map_or read o none) (find-change (λ (r : Release). r.version) f kept version changed releases)
      ∙ cases (bytes_eq version changed) (find (is_release version) releases)
    where
      cases :
          (b : Bool) (o : Option Release) →
          option_map_or read (cond b (option_map f o) o) none ≡ option_map_or read o none
      cases true None = refl
      cases true (Some release) = same release
      cases false o = refl

  -- the named release, which is there, has what is set, any other what it had
  read_in-set :
      (f : Release → Release) → KeepsVersion f → (value : A) → ((release : Release) → read (f release) ≡ value) →
      (version changed : List ℕ) (releases : List Release) (release : Release) →
      find (is_release changed) releases ≡ Some release →
      read_in read none version (change (is_release changed) f releases)
      ≡ cond (bytes_eq version changed) value (read_in read none version releases)
  read_in-set f kept value sets version changed releases release found =
      ap (λ (o : Option Release). option_map_or read o none) (find-change (λ (r : Release). r.version) f kept version changed releases)
      ∙ cases (bytes_eq version changed) refl
    where
      cases :
          (b : Bool) → bytes_eq version changed ≡ b →
          option_map_or read (cond b (option_map f (find (is_release version) releases)) (find (is_release version) releases)) none
          ≡ cond b value (read_in read none version releases)
      cases true same =
          let decides = bytes_eq-Decides version changed in
          ap (λ (v : List ℕ). option_map_or read (option_map f (find (is_release v) releases)) none) (decides.0 same)
          ∙ ap (λ (o : Option Release). option_map_or read (option_map f o) none) found
          ∙ sets release
      cases false other = refl

  -- a change of an app that leaves what is read in it
  read_release-kept :
      (f : App → App) → ((app : App) → (f app).id ≡ app.id) → (version : List ℕ) →
      ((app : App) → read_in read none version (f app).releases ≡ read_in read none version app.releases) →
      (apps : List App) (id changed : List ℕ) →
      read_release read none (change (is_app changed) f apps) id version ≡ read_release read none apps id version
  read_release-kept f kept version same apps id changed =
      read_app-then (read_in read none version) (λ app. app.releases) [] (change (is_app changed) f apps) id
      ∙ read_app-kept (λ app. read_in read none version app.releases) none f kept same apps id changed
      ∙ sym (read_app-then (read_in read none version) (λ app. app.releases) [] apps id)

  -- a change that leaves what is read of a release
  read_release-left :
      (c : Change) → ((release : Release) → read (set_by c release) ≡ read release) →
      (apps : List App) → Fits apps c → (id version : List ℕ) →
      read_release read none (changed c apps) id version ≡ read_release read none apps id version
  read_release-left (NewApp e) left apps takes id version =
      read_app-then (read_in read none version) (λ app. app.releases) [] (changed (NewApp e) apps) id
      ∙ read_app-push_none (λ app. read_in read none version app.releases) none apps (new_app e) id refl
      ∙ sym (read_app-then (read_in read none version) (λ app. app.releases) [] apps id)
  read_release-left (NewRelease e) left apps takes id version =
      read_app-then (read_in read none version) (λ app. app.releases) [] (changed (NewRelease e) apps) id
      ∙ read_app-change (λ app. read_in read none version app.releases) none (with_release new) (λ app. refl) apps id e.app takes.app takes.found
      ∙ cases takes (same_id id e.app) refl
      ∙ sym (read_app-then (read_in read none version) (λ app. app.releases) [] apps id)
    where
      new : Release
      new = new_release e

      fresh :
          (takes : TakesRelease apps e) → is_release version new ≡ true →
          list_any (is_release version) takes.app.releases ≡ false
      fresh takes same =
          ap (λ (v : List ℕ). list_any (is_release v) takes.app.releases) ((bytes_eq-Decides version new.version).0 same)
          ∙ takes.new_version

      cases :
          (takes : TakesRelease apps e) (b : Bool) → same_id id e.app ≡ b →
          cond b (read_in read none version (placed new takes.app.releases))
          (option_map_or (λ app. read_in read none version app.releases) (app_of apps id) none)
          ≡ option_map_or (λ app. read_in read none version app.releases) (app_of apps id) none
      cases takes true same =
          let releases = takes.app.releases in
          read_found-Inserts read none (is_release version) new (first e) releases (placed new releases)
          (Inserts-insert releases (place_of new.version releases) new) (fresh takes)
          ∙ sym (read_app-same_id (λ app. read_in read none version app.releases) none apps id e.app takes.app same takes.found)
      cases takes false other = refl
  read_release-left (NewDiff e) left apps takes id version =
      read_release-kept (with_diff (new_diff e)) (λ app. refl) version (λ app. refl) apps id e.app
  read_release-left (NewCohort e) left apps takes id version =
      read_release-kept (with_cohort (new_cohort e.cohort)) (λ app. refl) version (λ app. refl) apps id e.app
  read_release-left (SetsRelease changed_id changed_version new) left apps takes id version =
      read_release-kept (in_release changed_version (with_release_setting new)) (λ app. refl) version
      (λ app. read_in-kept (with_release_setting new) (version-with_release_setting new) left version changed_version app.releases) apps id changed_id
  read_release-left (SetsCohort changed_id name new) left apps takes id version =
      read_release-kept (in_cohort name (with_setting new)) (λ app. refl) version (λ app. refl) apps id changed_id

  -- the change that sets it
  read_release-set :
      (new : ReleaseSetting) (value : A) → ((release : Release) → read (with_release_setting new release) ≡ value) →
      (apps : List App) (id version changed_id changed_version : List ℕ) →
      TakesReleaseSetting apps changed_id changed_version new →
      read_release read none (changed (SetsRelease changed_id changed_version new) apps) id version
      ≡ unwrap_or (cond (names_release id version changed_id changed_version) (Some value) None) (read_release read none apps id version)
  read_release-set new value sets apps id version changed_id changed_version takes =
      ap (read_in read none version)
      (read_app-change (λ app. app.releases) [] (in_release changed_version f) (λ app. refl) apps id changed_id names.app names.found)
      ∙ cases (same_id id changed_id) refl
    where
      f : Release → Release
      f = with_release_setting new

      names : NamesRelease apps changed_id changed_version
      names = takes.names

      set_or_kept :
          (b : Bool) →
          cond b value (read_release read none apps id version)
          ≡ unwrap_or (cond b (Some value) None) (read_release read none apps id version)
      set_or_kept true = refl
      set_or_kept false = refl

      cases :
          (b : Bool) → same_id id changed_id ≡ b →
          read_in read none version (cond b (change (is_release changed_version) f names.app.releases) (releases_of apps id))
          ≡ unwrap_or (cond (b && bytes_eq version changed_version) (Some value) None) (read_release read none apps id version)
      cases true same =
          let some = Some-from_list_any (is_release changed_version) names.app.releases names.there in
          read_in-set f (version-with_release_setting new) value sets version changed_version names.app.releases some.0 some.1
          ∙ ap (λ (old : List Release). cond (bytes_eq version changed_version) value (read_in read none version old))
          (sym (read_app-same_id (λ app. app.releases) [] apps id changed_id names.app same names.found))
          ∙ set_or_kept (bytes_eq version changed_version)
      cases false other = refl

-- a release's stone flag is the one that the edit sets for it, else the one that it had
abbrev stone_flag : Release → Bool
stone_flag release = release.stone

pub is_stone-after :
    (id version : List ℕ) (apps : List App) (e : Edit) → fault_of apps e ≡ None →
    is_stone (after apps e) id version ≡ unwrap_or (sets_stone id version e) (is_stone apps id version)
is_stone-after id version apps (edit.SetStone e) accepted =
    read_release-set stone_flag false (λ new. refl) (setting.Stone e.on) e.on (λ release. refl)
    apps id version e.app (lenient_version_of e.version) (Fits-accepted apps (edit.SetStone e) accepted)
is_stone-after id version apps e accepted =
    read_release-left stone_flag false (λ new. refl) (change_of e) (λ release. refl) apps (Fits-accepted apps e accepted) id version

-- and so its withdrawn flag
abbrev withdrawn_flag : Release → Bool
withdrawn_flag release = release.withdrawn

pub is_withdrawn-after :
    (id version : List ℕ) (apps : List App) (e : Edit) → fault_of apps e ≡ None →
    is_withdrawn (after apps e) id version ≡ unwrap_or (sets_withdrawn id version e) (is_withdrawn apps id version)
is_withdrawn-after id version apps (edit.SetWithdrawn e) accepted =
    read_release-set withdrawn_flag false (λ new. refl) (setting.Withdrawn e.on) e.on (λ release. refl)
    apps id version e.app (lenient_version_of e.version) (Fits-accepted apps (edit.SetWithdrawn e) accepted)
is_withdrawn-after id version apps e accepted =
    read_release-left withdrawn_flag false (λ new. refl) (change_of e) (λ release. refl) apps (Fits-accepted apps e accepted) id version

-- and its audience
abbrev audience : Release → Option (List (List ℕ))
audience release = release.audience

pub audience_of-after :
    (id version : List ℕ) (apps : List App) (e : Edit) → fault_of apps e ≡ None →
    audience_of (after apps e) id version ≡ unwrap_or (sets_audience id version e) (audience_of apps id version)
audience_of-after id version apps (edit.SetAudience e) accepted =
    read_release-set audience None (λ new. refl) (setting.Audience e.cohorts) e.cohorts (λ release. refl)
    apps id version e.app (lenient_version_of e.version) (Fits-accepted apps (edit.SetAudience e) accepted)
audience_of-after id version apps e accepted =
    read_release-left audience None (λ new. refl) (change_of e) (λ release. refl) apps (Fits-accepted apps e accepted) id version

-- and its floor
abbrev floor : Release → List ℕ
floor release = release.floor

pub floor_of-after :
    (id version : List ℕ) (apps : List App) (e : Edit) → fault_of apps e ≡ None →
    floor_of (after apps e) id version ≡ unwrap_or (sets_floor id version e) (floor_of apps id version)
floor_of-after id version apps (edit.SetFloor e) accepted =
    read_release-set floor zero_version (λ new. refl) (setting.Floor (lenient_version_of e.floor)) (lenient_version_of e.floor) (λ release. refl)
    apps id version e.app (lenient_version_of e.version) (Fits-accepted apps (edit.SetFloor e) accepted)
floor_of-after id version apps e accepted =
    read_release-left floor zero_version (λ new. refl) (change_of e) (λ release. refl) apps (Fits-accepted apps e accepted) id version
