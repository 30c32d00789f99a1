-- The edits: each one's first fault against a content, and what it changes if it has none; a line
-- an edit. The tests of each kind are in a file of their own beside this one.
pub mod Apps
pub mod CohortSettings
pub mod Cohorts
pub mod Diffs
pub mod ReleaseSettings
pub mod Releases
use Rattle.std.specs.Prelude.{List, Option}
use Rattle.catalogue.specs.Versions.{lenient_version_of}
use Rattle.catalogue.specs.Changes.{Change, NewApp, NewCohort, NewDiff, NewRelease, SetsCohort, SetsRelease, changed}
use Rattle.catalogue.specs.Edits.Apps.{tests_of_add_app}
use Rattle.catalogue.specs.Edits.CohortSettings.{setting_of_set_target, tests_of_set_open, tests_of_set_rollback, tests_of_set_share, tests_of_set_target}
use Rattle.catalogue.specs.Edits.Cohorts.{tests_of_add_cohort}
use Rattle.catalogue.specs.Edits.Diffs.{tests_of_add_diff}
use Rattle.catalogue.specs.Edits.ReleaseSettings.{tests_of_set_audience, tests_of_set_floor, tests_of_set_stone, tests_of_set_withdrawn}
use Rattle.catalogue.specs.Edits.Releases.{tests_of_add_release}
use Rattle.catalogue.specs.Faults.{first_fault}
use Rattle.catalogue.specs.declared.content.App.{App}
use Rattle.catalogue.specs.declared.edit.Edit.{Edit}
use Rattle.catalogue.specs.declared.edit.Edit.TheVariants as edit
use Rattle.catalogue.specs.declared.edits.cohort_settings.CohortSetting.TheVariants as setting
use Rattle.catalogue.specs.declared.edits.release_settings.ReleaseSetting.TheVariants as release_setting
use Rattle.catalogue.specs.declared.fault.Fault.{Fault}

-- rule: Faults of an edit, in order
-- the first fault of an edit against a content, or none if the edit is accepted
abbrev pub fault_of : List App → Edit → Option Fault
fault_of apps (edit.AddApp e) = first_fault (tests_of_add_app apps e)
fault_of apps (edit.AddRelease e) = first_fault (tests_of_add_release apps e)
fault_of apps (edit.AddDiff e) = first_fault (tests_of_add_diff apps e)
fault_of apps (edit.SetStone e) = first_fault (tests_of_set_stone apps e)
fault_of apps (edit.SetWithdrawn e) = first_fault (tests_of_set_withdrawn apps e)
fault_of apps (edit.SetAudience e) = first_fault (tests_of_set_audience apps e)
fault_of apps (edit.SetFloor e) = first_fault (tests_of_set_floor apps e)
fault_of apps (edit.AddCohort e) = first_fault (tests_of_add_cohort apps e)
fault_of apps (edit.SetTarget e) = first_fault (tests_of_set_target apps e)
fault_of apps (edit.SetShare e) = first_fault (tests_of_set_share apps e)
fault_of apps (edit.SetRollback e) = first_fault (tests_of_set_rollback apps e)
fault_of apps (edit.SetOpen e) = first_fault (tests_of_set_open apps e)

-- rule: What an edit changes
-- what an accepted edit changes
abbrev pub change_of : Edit → Change
change_of (edit.AddApp e) = NewApp e
change_of (edit.AddRelease e) = NewRelease e
change_of (edit.AddDiff e) = NewDiff e
change_of (edit.SetStone e) = SetsRelease e.app (lenient_version_of e.version) (release_setting.Stone e.on)
change_of (edit.SetWithdrawn e) =
    SetsRelease e.app (lenient_version_of e.version) (release_setting.Withdrawn e.on)
change_of (edit.SetAudience e) =
    SetsRelease e.app (lenient_version_of e.version) (release_setting.Audience e.cohorts)
change_of (edit.SetFloor e) =
    SetsRelease e.app (lenient_version_of e.version) (release_setting.Floor (lenient_version_of e.floor))
change_of (edit.AddCohort e) = NewCohort e
change_of (edit.SetTarget e) = SetsCohort e.app e.cohort (setting_of_set_target e)
change_of (edit.SetShare e) = SetsCohort e.app e.cohort (setting.Share e.share)
change_of (edit.SetRollback e) = SetsCohort e.app e.cohort (setting.Rollback e.on)
change_of (edit.SetOpen e) = SetsCohort e.app e.cohort (setting.Open e.on)

-- the content after an accepted edit
abbrev pub after : List App → Edit → List App
after apps e = changed (change_of e) apps
