-- Every accepted edit, every batch and every history keeps a content valid.
use Rattle.std.proofs.Common.{◌≡◌, ℕ, true, List, [], ◌∷◌, ◌++◌, map, Some, None, count_by, refl, ap, ◌∙◌, arith}
use Rattle.std.specs.Char.{to_ascii_lowercase}
use Rattle.std.specs.Str.{bytes_eq}
use Rattle.std.proofs.lemmas.Grind.{flat_map-append}
use Rattle.std.proofs.lemmas.List.{append-nil}
use Rattle.std.proofs.lemmas.Slice.Eq.{bytes_eq-Decides}
use Rattle.catalogue.specs.VersionLaws.{LenientAgrees, PrintIsPlain}
use Rattle.catalogue.proofs.Accepted.Apps.{TakesApp}
use Rattle.catalogue.proofs.Accepted.Diffs.{TakesDiff}
use Rattle.catalogue.proofs.Accepted.ReleaseSettings.{IsSpelledFloor}
use Rattle.catalogue.proofs.Accepted.Releases.{TakesRelease}
use Rattle.values.proofs.ChangedLemmas.{AllByRecursion-change, AllByRecursion-push, count_by-change, length-change}
use Rattle.catalogue.proofs.FitLemmas.{Fits, Fits-accepted}
use Rattle.catalogue.proofs.ValidCohortLemmas.{name-with_setting}
use Rattle.catalogue.proofs.ValidReleaseLemmas.{hash-with_release_setting, version-with_release_setting}
use Rattle.values.proofs.InsertedLemmas.{IsOnce-Inserts, count_by-none, length-Inserts, list_any-find, list_any-lookup}
use Rattle.values.proofs.InsertionLemmas.{Inserts-push, flat_map-change}
use Rattle.catalogue.proofs.KeyLemmas.{VersionLaws}
use Rattle.catalogue.proofs.PackageLemmas.{Inserts-packages_of, Inserts-packages_of-diff, packages_in-in_release}
use Rattle.catalogue.proofs.ValidAppLemmas.{IsValidApp-in_cohort, IsValidApp-in_release, IsValidApp-new_app, IsValidApp-with_cohort, IsValidApp-with_diff, IsValidApp-with_release, spells-printed}
use Rattle.catalogue.specs.Changes.{Change, NewApp, NewCohort, NewDiff, NewRelease, SetsCohort, SetsRelease, changed, in_cohort, in_release, new_app, new_cohort, new_diff, new_release, with_cohort, with_diff, with_release, with_release_setting, with_setting}
use Rattle.values.specs.Lists.{change}
use Rattle.catalogue.specs.Edits.{after, change_of, fault_of}
use Rattle.catalogue.specs.Forms.{same_id}
use Rattle.catalogue.specs.Lookups.{app_of, diff_package, full_package, is_app, packages_in, packages_of}
use Rattle.catalogue.specs.Validity.{IsValid, IsValidApp, has_valid_floor, is_package}
use Rattle.catalogue.specs.declared.content.App.{App}
use Rattle.catalogue.specs.declared.content.Release.{Release}
use Rattle.catalogue.specs.declared.edit.Edit.{Edit}
use Rattle.catalogue.specs.declared.edits.apps.AddApp.{AddApp}
use Rattle.catalogue.specs.declared.edits.diffs.AddDiff.{AddDiff}
use Rattle.catalogue.specs.declared.edits.release_settings.ReleaseSetting.{ReleaseSetting}
use Rattle.catalogue.specs.declared.edits.release_settings.ReleaseSetting.TheVariants as setting
use Rattle.catalogue.specs.declared.edits.releases.AddRelease.{AddRelease}

-- identifiers that name one app count the same apps
count_by-is_app :
    (left right : List ℕ) →
    same_id left right ≡ true →
    (apps : List App) →
    count_by (is_app left) apps ≡ count_by (is_app right) apps
count_by-is_app left right same apps =
    ap (λ (lowered : List ℕ). count_by (λ (app : App). bytes_eq lowered (map to_ascii_lowercase app.id)) apps)
    ((bytes_eq-Decides (map to_ascii_lowercase left) (map to_ascii_lowercase right)).0 same)

IsValid-add_app : (apps : List App) (e : AddApp) → TakesApp apps e → IsValid apps → IsValid (apps ++ new_app e ∷ [])
IsValid-add_app apps e takes valid =
    let new = new_app e in
    let among = Inserts-push apps new in
    record {
      few_apps = omega (arith, takes.room, length-Inserts new apps (apps ++ new ∷ []) among);
      ids_once = IsOnce-Inserts is_app new apps (apps ++ new ∷ []) among valid.ids_once
          (λ id same. count_by-is_app id e.app same apps ∙ count_by-none (is_app e.app) apps (list_any-find (is_app e.app) apps takes.new_app));
      names_once = rw (flat_map-append packages_in apps (new ∷ []), append-nil (packages_of apps)) valid.names_once;
      apps_valid = AllByRecursion-push IsValidApp apps new valid.apps_valid (IsValidApp-new_app apps e takes);
    }

IsValid-add_release :
    VersionLaws → LenientAgrees → PrintIsPlain → (apps : List App) (e : AddRelease) → TakesRelease apps e → IsValid apps →
    IsValid (change (is_app e.app) (with_release (new_release e)) apps)
IsValid-add_release laws agrees plain apps e takes valid =
    let release = new_release e in
    let changed = with_release release in
    record {
      few_apps = rw (length-change (is_app e.app) changed apps) valid.few_apps;
      ids_once = λ id. rw (count_by-change (is_app e.app) changed (is_app id) (λ app. refl) apps) (valid.ids_once id);
      names_once = IsOnce-Inserts is_package (full_package release) (packages_of apps) _ (Inserts-packages_of apps e.app release takes.app takes.found) valid.names_once
          (λ name same.
          ap (λ (n : List ℕ). count_by (is_package n) (packages_of apps)) ((bytes_eq-Decides name release.name).0 same)
          ∙ count_by-none (is_package release.name) (packages_of apps) (list_any-lookup (bytes_eq release.name) (packages_of apps) takes.new_name));
      apps_valid = AllByRecursion-change (is_app e.app) changed IsValidApp apps takes.app takes.found valid.apps_valid (IsValidApp-with_release laws agrees plain apps e takes);
    }

IsValid-add_diff :
    VersionLaws → LenientAgrees → PrintIsPlain → (apps : List App) (e : AddDiff) → TakesDiff apps e → IsValid apps →
    IsValid (change (is_app e.app) (with_diff (new_diff e)) apps)
IsValid-add_diff laws agrees plain apps e takes valid =
    let diff = new_diff e in
    let changed = with_diff diff in
    record {
      few_apps = rw (length-change (is_app e.app) changed apps) valid.few_apps;
      ids_once = λ id. rw (count_by-change (is_app e.app) changed (is_app id) (λ app. refl) apps) (valid.ids_once id);
      names_once = IsOnce-Inserts is_package (diff_package diff) (packages_of apps) _ (Inserts-packages_of-diff apps e.app diff takes.app takes.found) valid.names_once
          (λ name same.
          ap (λ (n : List ℕ). count_by (is_package n) (packages_of apps)) ((bytes_eq-Decides name diff.name).0 same)
          ∙ count_by-none (is_package diff.name) (packages_of apps) (list_any-lookup (bytes_eq diff.name) (packages_of apps) takes.new_name));
      apps_valid = AllByRecursion-change (is_app e.app) changed IsValidApp apps takes.app takes.found valid.apps_valid (IsValidApp-with_diff laws agrees plain apps e takes);
    }

-- a change of an app that keeps its identifier and its packages and keeps it valid
IsValid-change :
    (id : List ℕ) (f : App → App) (apps : List App) (app : App) →
    app_of apps id ≡ Some app →
    ((a : App) → (f a).id ≡ a.id) →
    ((a : App) → packages_in (f a) ≡ packages_in a) →
    (IsValidApp app → IsValidApp (f app)) →
    IsValid apps →
    IsValid (change (is_app id) f apps)
IsValid-change id f apps app found kept same keeps_valid valid = record {
  few_apps = rw (length-change (is_app id) f apps) valid.few_apps;
  ids_once = λ key. rw (count_by-change (is_app id) f (is_app key) (λ a. ap (same_id key) (kept a)) apps) (valid.ids_once key);
  names_once = λ name. rw (flat_map-change (is_app id) f packages_in same apps) (valid.names_once name);
  apps_valid = AllByRecursion-change (is_app id) f IsValidApp apps app found valid.apps_valid keeps_valid;
}

-- the empty content
pub IsValid-empty : IsValid []
IsValid-empty = record {
  few_apps = omega arith;
  ids_once = λ id. omega arith;
  names_once = λ name. omega arith;
  apps_valid = tt;
}

-- a setting leaves a release a valid floor
has_valid_floor-with_release_setting :
    LenientAgrees → PrintIsPlain → (new : ReleaseSetting) → IsSpelledFloor new →
    (release : Release) → has_valid_floor release ≡ true →
    has_valid_floor (with_release_setting new release) ≡ true
has_valid_floor-with_release_setting agrees plain (setting.Floor floor) spelled release good =
    rw spelled.2 (spells-printed agrees plain spelled.0 spelled.1)
has_valid_floor-with_release_setting agrees plain new spelled release good = good

module _ (laws : VersionLaws) (agrees : LenientAgrees) (plain : PrintIsPlain) where
  IsValid-changed :
      (apps : List App) (c : Change) → Fits apps c → IsValid apps → IsValid (changed c apps)
  IsValid-changed apps (NewApp e) takes valid = IsValid-add_app apps e takes valid
  IsValid-changed apps (NewRelease e) takes valid =
      IsValid-add_release laws agrees plain apps e takes valid
  IsValid-changed apps (NewCohort e) takes valid =
      IsValid-change e.app (with_cohort (new_cohort e.cohort)) apps takes.app takes.found (λ app. refl) (λ app. refl)
      (IsValidApp-with_cohort apps e takes) valid
  IsValid-changed apps (NewDiff e) takes valid = IsValid-add_diff laws agrees plain apps e takes valid
  IsValid-changed apps (SetsRelease id version new) takes valid =
      let f = with_release_setting new in
      let names = takes.names in
      IsValid-change id (in_release version f) apps names.app names.found (λ app. refl)
      (packages_in-in_release version new)
      (IsValidApp-in_release version f names.app (version-with_release_setting new) (hash-with_release_setting new) takes.keeps
      (has_valid_floor-with_release_setting agrees plain new takes.spelled)) valid
  IsValid-changed apps (SetsCohort id name new) takes valid =
      let names = takes.names in
      IsValid-change id (in_cohort name (with_setting new)) apps names.app names.found (λ app. refl) (λ app. refl)
      (IsValidApp-in_cohort name (with_setting new) names.app (name-with_setting new) takes.keeps) valid

  pub IsValid-after :
      (apps : List App) (e : Edit) → fault_of apps e ≡ None → IsValid apps → IsValid (after apps e)
  IsValid-after apps e accepted valid =
      IsValid-changed apps (change_of e) (Fits-accepted apps e accepted) valid
