-- What is known of a setting that a cohort may be given.
use Rattle.std.proofs.Common.{◌≡◌, ℕ, true, false, not, List, Option, Some, None, refl, option_map}
use Rattle.std.specs.Option.{is_none}
use Rattle.std.proofs.lemmas.Bool.{or_parts}
use Rattle.catalogue.specs.Versions.{lenient_version_of}
use Rattle.catalogue.proofs.AcceptedLemmas.{NoneHold-first_fault, Some-from_not_none, true-from_not}
use Rattle.catalogue.proofs.ValidCohortLemmas.{ValidCohort-from_test, is_valid_cohort-from_parts}
use Rattle.catalogue.specs.Changes.{with_setting}
use Rattle.catalogue.specs.Edits.CohortSettings.{is_unreleased, setting_of_set_target, tests_of_set_open, tests_of_set_rollback, tests_of_set_share, tests_of_set_target}
use Rattle.catalogue.specs.Faults.{first_fault}
use Rattle.catalogue.specs.Lookups.{app_of, cohorts_of, has_cohort}
use Rattle.catalogue.specs.Validity.{is_valid_cohort, is_released}
use Rattle.catalogue.specs.declared.content.App.{App}
use Rattle.catalogue.specs.declared.content.Cohort.{Cohort}
use Rattle.catalogue.specs.declared.content.Release.{Release}
use Rattle.catalogue.specs.declared.edits.cohort_settings.CohortSetting.{CohortSetting}
use Rattle.catalogue.specs.declared.edits.cohort_settings.CohortSetting.TheVariants as setting
use Rattle.catalogue.specs.declared.edits.cohort_settings.SetOpen.{SetOpen}
use Rattle.catalogue.specs.declared.edits.cohort_settings.SetRollback.{SetRollback}
use Rattle.catalogue.specs.declared.edits.cohort_settings.SetShare.{SetShare}
use Rattle.catalogue.specs.declared.edits.cohort_settings.SetTarget.{SetTarget}

-- the cohort that an edit names is there, in its app
pub record NamesCohort (apps : List App) (id name : List ℕ) : Type 0 where
  pub app : App
  pub found : app_of apps id ≡ Some app
  pub there : has_cohort app.cohorts name ≡ true

NamesCohort-from_tests :
    (apps : List App) (id name : List ℕ) → is_none (app_of apps id) ≡ false →
    not (has_cohort (cohorts_of apps id) name) ≡ false → NamesCohort apps id name
NamesCohort-from_tests apps id name known there =
    let some = Some-from_not_none (app_of apps id) known in
    let found = some.1 in
    record { app = some.0; found = found; there = true-from_not _ (rw found at there) }

-- an accepted setting: the cohort is there, and stays valid with it
pub record TakesSetting (apps : List App) (id name : List ℕ) (new : CohortSetting) : Type 0 where
  pub names : NamesCohort apps id name
  pub keeps :
      (cohort : Cohort) → is_valid_cohort names.app.releases cohort ≡ true →
      is_valid_cohort names.app.releases (with_setting new cohort) ≡ true

is_released-from_not_unreleased :
    (releases : List Release) (text : Option (List ℕ)) →
    is_unreleased releases text ≡ false →
    is_released releases (option_map lenient_version_of text) ≡ true
is_released-from_not_unreleased releases None h = refl
is_released-from_not_unreleased releases (Some text) h = true-from_not _ h

pub TakesSetting-set_target :
    (apps : List App) (e : SetTarget) → first_fault (tests_of_set_target apps e) ≡ None →
    TakesSetting apps e.app e.cohort (setting_of_set_target e)
TakesSetting-set_target apps e h =
    let tests = NoneHold-first_fault (tests_of_set_target apps e) h in
    let names = NamesCohort-from_tests apps e.app e.cohort tests.0 tests.1.0 in
    let releases = names.app.releases in
    let found = names.found in
    let released =
    or_parts (is_unreleased releases e.target) (is_unreleased releases e.held) (rw found at tests.1.1.1.0) in
    record {
      names = names;
      keeps = λ cohort good.
          let before = ValidCohort-from_test releases cohort good in
          is_valid_cohort-from_parts releases (with_setting (setting_of_set_target e) cohort) (record {
            named = before.named;
            shared = before.shared;
            target = is_released-from_not_unreleased releases e.target released.0;
            held = is_released-from_not_unreleased releases e.held released.1;
          });
    }

pub TakesSetting-set_share :
    (apps : List App) (e : SetShare) → first_fault (tests_of_set_share apps e) ≡ None →
    TakesSetting apps e.app e.cohort (setting.Share e.share)
TakesSetting-set_share apps e h =
    let tests = NoneHold-first_fault (tests_of_set_share apps e) h in
    let names = NamesCohort-from_tests apps e.app e.cohort tests.0 tests.1.0 in
    let releases = names.app.releases in
    record {
      names = names;
      keeps = λ cohort good.
          let before = ValidCohort-from_test releases cohort good in
          is_valid_cohort-from_parts releases (with_setting (setting.Share e.share) cohort) (record {
            named = before.named;
            shared = true-from_not _ tests.1.1.0;
            target = before.target;
            held = before.held;
          });
    }

pub TakesSetting-set_rollback :
    (apps : List App) (e : SetRollback) → first_fault (tests_of_set_rollback apps e) ≡ None →
    TakesSetting apps e.app e.cohort (setting.Rollback e.on)
TakesSetting-set_rollback apps e h =
    let tests = NoneHold-first_fault (tests_of_set_rollback apps e) h in
    record { names = NamesCohort-from_tests apps e.app e.cohort tests.0 tests.1.0; keeps = λ cohort good. good }

pub TakesSetting-set_open :
    (apps : List App) (e : SetOpen) → first_fault (tests_of_set_open apps e) ≡ None →
    TakesSetting apps e.app e.cohort (setting.Open e.on)
TakesSetting-set_open apps e h =
    let tests = NoneHold-first_fault (tests_of_set_open apps e) h in
    record { names = NamesCohort-from_tests apps e.app e.cohort tests.0 tests.1.0; keeps = λ cohort good. good }
