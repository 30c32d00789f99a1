-- What is known of the change of an accepted edit, by the kind of change; a line an edit.
use Rattle.std.proofs.Common.{◌≡◌, List, None}
use Rattle.catalogue.proofs.Accepted.Apps.{TakesApp, TakesApp-from_no_fault}
use Rattle.catalogue.proofs.Accepted.CohortSettings.{TakesSetting, TakesSetting-set_open, TakesSetting-set_rollback, TakesSetting-set_share, TakesSetting-set_target}
use Rattle.catalogue.proofs.Accepted.Cohorts.{TakesCohort, TakesCohort-from_no_fault}
use Rattle.catalogue.proofs.Accepted.Diffs.{TakesDiff, TakesDiff-from_no_fault}
use Rattle.catalogue.proofs.Accepted.ReleaseSettings.{TakesReleaseSetting, TakesReleaseSetting-set_audience, TakesReleaseSetting-set_floor, TakesReleaseSetting-set_stone, TakesReleaseSetting-set_withdrawn}
use Rattle.catalogue.proofs.Accepted.Releases.{TakesRelease, TakesRelease-from_no_fault}
use Rattle.catalogue.specs.Changes.{Change, NewApp, NewCohort, NewDiff, NewRelease, SetsCohort, SetsRelease}
use Rattle.catalogue.specs.Edits.{change_of, fault_of}
use Rattle.catalogue.specs.declared.content.App.{App}
use Rattle.catalogue.specs.declared.edit.Edit.{Edit}
use Rattle.catalogue.specs.declared.edit.Edit.TheVariants as edit

-- the content takes the change
abbrev pub Fits : List App → Change → Type 0
Fits apps (NewApp e) = TakesApp apps e
Fits apps (NewRelease e) = TakesRelease apps e
Fits apps (NewDiff e) = TakesDiff apps e
Fits apps (NewCohort e) = TakesCohort apps e
Fits apps (SetsRelease id version new) = TakesReleaseSetting apps id version new
Fits apps (SetsCohort id name new) = TakesSetting apps id name new

pub Fits-accepted :
    (apps : List App) (e : Edit) → fault_of apps e ≡ None → Fits apps (change_of e)
Fits-accepted apps (edit.AddApp e) h = TakesApp-from_no_fault apps e h
Fits-accepted apps (edit.AddRelease e) h = TakesRelease-from_no_fault apps e h
Fits-accepted apps (edit.AddDiff e) h = TakesDiff-from_no_fault apps e h
Fits-accepted apps (edit.SetStone e) h = TakesReleaseSetting-set_stone apps e h
Fits-accepted apps (edit.SetWithdrawn e) h = TakesReleaseSetting-set_withdrawn apps e h
Fits-accepted apps (edit.SetAudience e) h = TakesReleaseSetting-set_audience apps e h
Fits-accepted apps (edit.SetFloor e) h = TakesReleaseSetting-set_floor apps e h
Fits-accepted apps (edit.AddCohort e) h = TakesCohort-from_no_fault apps e h
Fits-accepted apps (edit.SetTarget e) h = TakesSetting-set_target apps e h
Fits-accepted apps (edit.SetShare e) h = TakesSetting-set_share apps e h
Fits-accepted apps (edit.SetRollback e) h = TakesSetting-set_rollback apps e h
Fits-accepted apps (edit.SetOpen e) h = TakesSetting-set_open apps e h
