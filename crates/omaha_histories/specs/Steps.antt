-- The errors of single records.
use Rattle.std.specs.Prelude.{◌≡◌, ⊤, ℕ, zero, suc, List, slice_get, take, Some}
use Rattle.editions.specs.declared.fault.NextError.{NextError}
use Rattle.editions.specs.declared.fault.NextError.TheVariants as next
use Rattle.kept_records.specs.declared.record.Kind.{Kind}
use Rattle.values.specs.declared.read_error.ReadError.{ReadError}
use Rattle.values.specs.declared.read_error.ReadError.TheVariants as read
use Rattle.kept_records.specs.declared.record.Record.{Record}
use Rattle.omaha_histories.specs.Restarting.{BeginsNothing, FollowAll, FollowsNothing, Found}
use Rattle.failures.specs.declared.record_fault.RecordFault.{RecordFault}
use Rattle.failures.specs.declared.record_fault.RecordFault.TheVariants as fault
use Rattle.omaha_histories.specs.declared.restarts.fault.RestoreError.{RestoreError}
use Rattle.omaha_histories.specs.declared.restarts.fault.RestoreError.TheVariants as restore

-- why a batch has no place in a history
abbrev pub fault_by : NextError → ReadError RecordFault
fault_by (next.Refused refused) = read.Fault (fault.Refused refused)
fault_by next.HistoryFull = read.Fault fault.HistoryFull
fault_by next.Memory = read.Memory

-- the error of the record at an index
abbrev pub error_by : ℕ → ReadError RecordFault → RestoreError
error_by index (read.Fault error) = restore.Record index error
error_by index read.Memory = restore.Memory

-- why a first record begins nothing, or out of memory
abbrev pub IsWhyNoBeginning : Kind → List ℕ → ReadError RecordFault → Type 0
IsWhyNoBeginning kind bytes read.Memory = ⊤
IsWhyNoBeginning kind bytes (read.Fault error) = BeginsNothing kind bytes error

-- why a record doesn't follow, or out of memory
abbrev pub IsWhyNoFollower : Kind → List ℕ → Found → ReadError RecordFault → Type 0
IsWhyNoFollower kind bytes before read.Memory = ⊤
IsWhyNoFollower kind bytes before (read.Fault error) = FollowsNothing kind bytes before error

-- the record at an index, after a first one, doesn't follow
abbrev pub StopsAfter : Found → List Record → ℕ → RecordFault → Type 0
StopsAfter start others zero error = ⊥
StopsAfter start others (suc index) error =
    (found : Found) × FollowAll start (take index others) found
    × ((entry : Record) × (slice_get others index ≡ Some entry) × FollowsNothing entry.kind entry.bytes found error)

-- why the records after a first one don't follow
abbrev pub IsStopAfter : Found → List Record → RestoreError → Type 0
IsStopAfter start others restore.Memory = ⊤
IsStopAfter start others restore.Empty = ⊥
IsStopAfter start others (restore.Record index error) = StopsAfter start others index error
