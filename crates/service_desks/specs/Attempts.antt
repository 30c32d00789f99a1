-- What an attempt to keep a script or a raise comes to; this project's profile.
use Rattle.std.specs.Prelude.{◌≡◌, ◌⊎◌, ⊤, ℕ, List, Option, None, Some, Result, Ok, Err}
use Rattle.http_desks.specs.Calls.{answer_in}
use Rattle.http_desks.specs.declared.desk.DeskStatus.{DeskStatus}
use Rattle.http_desks.specs.declared.desk.DeskStatus.TheVariants as status
use Rattle.http_desks.specs.declared.desk.Off.{Off}
use Rattle.http_desks.specs.declared.desk.Off.TheVariants.{Memory, Closed}
use Rattle.kept_records.specs.declared.fault.AppendFault.{AppendFault}
use Rattle.kept_records.specs.declared.fault.AppendFault.TheVariants as append
use Rattle.kept_records.specs.declared.fault.Cause.TheVariants as cause
use Rattle.service_desks.specs.Lines.{IsUnkept, doubt_line, unreachable_line}
use Rattle.service_desks.specs.declared.attempt.Attempt.{Attempt}
use Rattle.service_desks.specs.declared.attempt.Attempt.TheVariants.{Replied, Overtaken}
use Rattle.service_desks.specs.declared.attempt.Unkept.{Unkept}
use Rattle.service_desks.specs.declared.attempt.Unkept.TheVariants as unkept

-- its reply, unless another server's record came first
abbrev pub attempt_in : Result Attempt Off → Option (Result (DeskStatus × List ℕ) Off)
attempt_in (Ok (Replied reply)) = Some (answer_in (Ok reply))
attempt_in (Ok Overtaken) = None
attempt_in (Err off) = Some (Err off)

-- a reply that says that nothing was kept, or that it may be, or none
abbrev pub IsUnkeptAttempt : Option (Result (DeskStatus × List ℕ) Off) → Type 0
IsUnkeptAttempt None = ⊤
IsUnkeptAttempt (Some (Ok reply)) = IsUnkept reply
IsUnkeptAttempt (Some (Err off)) = ⊤

-- why a script or a raise isn't kept, by the fault of its append
abbrev pub unkept_by : AppendFault → Unkept
unkept_by append.Taken = unkept.Taken
unkept_by (append.Failed (cause.Unreachable why)) = unkept.Unreachable
unkept_by (append.Unknown (cause.Unreachable why)) = unkept.InDoubt
unkept_by other = unkept.Closed

-- a reply that the history is unavailable, in this line, unless memory ran out
abbrev pub IsUnavailable : List ℕ → Option (Result (DeskStatus × List ℕ) Off) → Type 0
IsUnavailable line attempt =
    (attempt ≡ Some (Ok (status.ServiceUnavailable, line))) ⊎ (attempt ≡ Some (Err Memory))

-- what an attempt comes to, by why its script or raise isn't kept
abbrev pub ComesTo : Unkept → Option (Result (DeskStatus × List ℕ) Off) → Type 0
ComesTo unkept.Taken attempt = attempt ≡ None
ComesTo unkept.Unreachable attempt = IsUnavailable unreachable_line attempt
ComesTo unkept.InDoubt attempt = IsUnavailable doubt_line attempt
ComesTo unkept.Closed attempt = attempt ≡ Some (Err Closed)
