-- What may be set of a cohort, and the faults of each such edit in their order; this project's
-- profile.
use Rattle.std.specs.Prelude.{ℕ, ◌||◌, not, nat_le, Bool, false, List, [], ◌∷◌, Option, Some, None, is_none, option_map}
use Rattle.catalogue.specs.Versions.{version_of, lenient_version_of}
use Rattle.catalogue.specs.Limits.{max_share}
use Rattle.catalogue.specs.Lookups.{app_of, cohorts_of, has_cohort, has_release, releases_of}
use Rattle.catalogue.specs.declared.content.App.{App}
use Rattle.catalogue.specs.declared.content.Release.{Release}
use Rattle.catalogue.specs.declared.edits.cohort_settings.CohortSetting.{CohortSetting}
use Rattle.catalogue.specs.declared.edits.cohort_settings.CohortSetting.TheVariants as setting
use Rattle.catalogue.specs.declared.edits.cohort_settings.SetOpen.{SetOpen}
use Rattle.catalogue.specs.declared.edits.cohort_settings.SetRollback.{SetRollback}
use Rattle.catalogue.specs.declared.edits.cohort_settings.SetShare.{SetShare}
use Rattle.catalogue.specs.declared.edits.cohort_settings.SetTarget.{SetTarget}
use Rattle.catalogue.specs.declared.fault.Fault.{Fault}
use Rattle.catalogue.specs.declared.fault.Fault.TheVariants as fault

-- the app and the cohort come first, then what is tested of the value
abbrev pub tests_of_setting : List App → List ℕ → List ℕ → List (Bool × Fault) → List (Bool × Fault)
tests_of_setting apps id name tests =
    (is_none (app_of apps id), fault.UnknownApp)
    ∷ (not (has_cohort (cohorts_of apps id) name), fault.UnknownCohort)
    ∷ tests

-- the string of a target is given and spells no version
abbrev pub is_misspelled : Option (List ℕ) → Bool
is_misspelled None = false
is_misspelled (Some text) = is_none (version_of text)

-- the string of a target is given and there is no release of its version
abbrev pub is_unreleased : List Release → Option (List ℕ) → Bool
is_unreleased releases None = false
is_unreleased releases (Some text) = not (has_release releases (lenient_version_of text))

-- targets: the form of both strings, then both releases
abbrev pub tests_of_set_target : List App → SetTarget → List (Bool × Fault)
tests_of_set_target apps e =
    tests_of_setting apps e.app e.cohort (
    (is_misspelled e.target || is_misspelled e.held, fault.BadVersion)
    ∷ (
      is_unreleased (releases_of apps e.app) e.target
          || is_unreleased (releases_of apps e.app) e.held,
      fault.UnknownRelease,
    )
    ∷ []
    )

abbrev pub setting_of_set_target : SetTarget → CohortSetting
setting_of_set_target e =
    setting.Targets (option_map lenient_version_of e.target) (option_map lenient_version_of e.held)

-- a share: that it is at most all clients
abbrev pub tests_of_set_share : List App → SetShare → List (Bool × Fault)
tests_of_set_share apps e =
    tests_of_setting apps e.app e.cohort ((not (nat_le e.share max_share), fault.BadShare) ∷ [])

-- a rollback flag, an open flag: nothing more
abbrev pub tests_of_set_rollback : List App → SetRollback → List (Bool × Fault)
tests_of_set_rollback apps e = tests_of_setting apps e.app e.cohort []

abbrev pub tests_of_set_open : List App → SetOpen → List (Bool × Fault)
tests_of_set_open apps e = tests_of_setting apps e.app e.cohort []
