-- What may be set of a release, and the faults of each such edit in their order; this project's
-- profile.
use Rattle.std.specs.Prelude.{ℕ, not, Bool, List, [], ◌∷◌, is_none}
use Rattle.catalogue.specs.Versions.{version_of, lenient_version_of}
use Rattle.catalogue.specs.Lookups.{app_of, cohorts_of, has_release, releases_of}
use Rattle.catalogue.specs.Validity.{is_valid_audience}
use Rattle.catalogue.specs.declared.content.App.{App}
use Rattle.catalogue.specs.declared.edits.release_settings.SetAudience.{SetAudience}
use Rattle.catalogue.specs.declared.edits.release_settings.SetFloor.{SetFloor}
use Rattle.catalogue.specs.declared.edits.release_settings.SetStone.{SetStone}
use Rattle.catalogue.specs.declared.edits.release_settings.SetWithdrawn.{SetWithdrawn}
use Rattle.catalogue.specs.declared.fault.Fault.{Fault}
use Rattle.catalogue.specs.declared.fault.Fault.TheVariants as fault

-- the app, the form of the version and the release come first, then what is tested of the value
abbrev pub tests_of_release_setting : List App → List ℕ → List ℕ → List (Bool × Fault) → List (Bool × Fault)
tests_of_release_setting apps id text tests =
    (is_none (app_of apps id), fault.UnknownApp)
    ∷ (is_none (version_of text), fault.BadVersion)
    ∷ (not (has_release (releases_of apps id) (lenient_version_of text)), fault.UnknownRelease)
    ∷ tests

-- a stone flag, a withdrawn flag: nothing more
abbrev pub tests_of_set_stone : List App → SetStone → List (Bool × Fault)
tests_of_set_stone apps e = tests_of_release_setting apps e.app e.version []

abbrev pub tests_of_set_withdrawn : List App → SetWithdrawn → List (Bool × Fault)
tests_of_set_withdrawn apps e = tests_of_release_setting apps e.app e.version []

-- an audience: that each of its names is that of a cohort
abbrev pub tests_of_set_audience : List App → SetAudience → List (Bool × Fault)
tests_of_set_audience apps e =
    tests_of_release_setting apps e.app e.version (
    (not (is_valid_audience (cohorts_of apps e.app) e.cohorts), fault.UnknownCohort)
    ∷ []
    )

-- rule: Floor of a release
-- a floor: its form is tested between that of the release's version and the release; it may be
-- above the release
abbrev pub tests_of_set_floor : List App → SetFloor → List (Bool × Fault)
tests_of_set_floor apps e =
    (is_none (app_of apps e.app), fault.UnknownApp)
    ∷ (is_none (version_of e.version), fault.BadVersion)
    ∷ (is_none (version_of e.floor), fault.BadVersion)
    ∷ (not (has_release (releases_of apps e.app) (lenient_version_of e.version)), fault.UnknownRelease)
    ∷ []
