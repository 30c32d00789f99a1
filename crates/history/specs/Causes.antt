-- The causes that errors of the database name; this project's profile.
use Rattle.kept_records.specs.declared.fault.Cause.{Cause}
use Rattle.kept_records.specs.declared.fault.Cause.TheVariants as cause
use Rattle.kept_records.specs.declared.fault.OpenFault.{OpenFault}
use Rattle.kept_records.specs.declared.fault.OpenFault.TheVariants as opening
use Rattle.sqlite.specs.declared.error.Error.{Error}
use Rattle.sqlite.specs.declared.error.Error.TheVariants.{SqliteFailure}
use Rattle.sqlite.specs.declared.error.ErrorCode.TheVariants as code

-- the cause that an error of the database names; one that no statement here can give counts as damage
abbrev pub cause_of : Error → Cause
cause_of (SqliteFailure code.OutOfMemory) = cause.Memory
cause_of (SqliteFailure code.DiskFull) = cause.DiskFull
cause_of (SqliteFailure code.SystemIoFailure) = cause.Disk
cause_of (SqliteFailure code.TooBig) = cause.TooLarge
cause_of (SqliteFailure code.Closed) = cause.Closed
cause_of _ = cause.Damaged

-- rule: Cause of a failure
-- the fault of an open that it names
abbrev pub open_fault_of : Error → OpenFault
open_fault_of (SqliteFailure code.NotADatabase) = opening.Foreign
open_fault_of (SqliteFailure code.DatabaseBusy) = opening.Busy
open_fault_of (SqliteFailure code.CannotOpen) = opening.Unopened
open_fault_of other = opening.Failed (cause_of other)
