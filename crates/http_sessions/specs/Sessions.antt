-- A session, or a part of one: what was read, written and asked; this project's profile.
use Rattle.std.specs.Prelude.{◌≡◌, ◌+◌, ◌<◌, ⊤, ℕ, Bool, true, false, ◌==◌, List, ◌++◌, length, flat_map, Option, None, Some, Result, Ok, Err}
use Rattle.std.specs.List.{AllByRecursion}
use Rattle.std.specs.Io.KnownBytes.{Appends, Consumes}
use Rattle.http_wire.specs.declared.heads.status.Status.{Status}
use Rattle.http_wire.specs.Sending.{AppendsPart}
use Rattle.values.specs.declared.failed.Failed.{Failed}
use Rattle.http_desks.specs.declared.answering.Handled.{Handled}
use Rattle.http_desks.specs.declared.answering.Handled.TheVariants as handled
use Rattle.http_desks.specs.declared.method.Method.{Method}
use Rattle.http_desks.specs.Calls.{Call, Leads}
use Rattle.http_desks.specs.Replies.{Answers, empty_reply}
use Rattle.http_desks.specs.Uses.{Use}
use Rattle.http_sessions.specs.declared.ends.End.TheVariants.{Refused}
use Rattle.http_sessions.specs.declared.ends.Fault.{Fault}
use Rattle.http_sessions.specs.declared.ends.Fault.TheVariants as fault
use Rattle.http_sessions.specs.declared.ends.Served.{Served}
use Rattle.http_sessions.specs.declared.session.Session.{Session}
use Rattle.http_sessions.specs.declared.session.Turn.{Turn}
use Rattle.http_sessions.specs.declared.session.Turn.TheVariants.{Open, Ended}
use Rattle.http_sessions.specs.Messages.{Exchange, IsOpen, exchange_bytes, exchange_calls, open_reply}
use Rattle.http_sessions.specs.Stops.{Ends, More, Stop, StopsAt, Waits, begun, end_after, stop_bytes, stop_calls}

-- the bytes that were read and not yet used
abbrev pub waiting : Session → List ℕ
waiting session = session.window

-- how many replies were begun
abbrev pub replies : Session → ℕ
replies session = session.begun

-- both strings were written; or, if a write failed, the first and a part of the second
abbrev pub Writes : Bool → Option (List ℕ) → Option (List ℕ) → List ℕ → List ℕ → Type 0
Writes true old new before text = Appends old new (before ++ text)
Writes false old new before text =
    (sent : List ℕ) × (left : List ℕ) × (text ≡ sent ++ left) × (0 < length left) × Appends old new (before ++ sent)

-- rule: Session
-- the bytes that waited and those that were read are messages, each after the one before, that kept
-- the connection open, and a rest; the desk was called for each, and each was replied to, in order
pub record Serves
    {D : Type 0} (IsFit : Method → List ℕ → Use → Type 0) (steps : D → Call → D → Type 0) (kind : List ℕ)
    (start : ℕ) (IsEnd : ℕ → Stop → List ℕ → Type 0) (whole : Bool)
    (first : List ℕ) (left after : Option (List ℕ)) (old new : Option (List ℕ)) (before behind : D)
    : Type 0 where
  pub given : List ℕ
  pub exchanges : List Exchange
  pub stop : Stop
  pub rest : List ℕ
  pub consumed : Consumes left after given
  pub cut : first ++ given ≡ flat_map exchange_bytes exchanges ++ rest
  pub each : AllByRecursion (IsOpen IsFit) exchanges
  pub few : start + length exchanges < 1000
  pub stops : StopsAt IsFit stop rest
  pub written : Writes whole old new (flat_map (open_reply kind) exchanges)
      (stop_bytes kind (start + length exchanges == 999) stop)
  pub calls : Leads steps before (flat_map exchange_calls exchanges ++ stop_calls stop) behind
  pub ends : IsEnd (length exchanges) stop rest

-- whether all that was to be written was written
abbrev pub wrote : {A : Type 0} → Result A Fault → Bool
wrote (Ok done) = true
wrote (Err fault.Read) = true
wrote (Err fault.Write) = false
wrote (Err fault.Memory) = true

-- how many reads failed
abbrev pub failed_reads : {A : Type 0} → Result A Fault → ℕ
failed_reads (Ok done) = 0
failed_reads (Err fault.Read) = 1
failed_reads (Err fault.Write) = 0
failed_reads (Err fault.Memory) = 0

-- how many writes failed
abbrev pub failed_writes : {A : Type 0} → Result A Fault → ℕ
failed_writes (Ok done) = 0
failed_writes (Err fault.Read) = 0
failed_writes (Err fault.Write) = 1
failed_writes (Err fault.Memory) = 0

-- how the part ends that one message makes, after `start` others
abbrev pub TurnEnds : Option (List ℕ) → ℕ → Result Turn Fault → ℕ → Stop → List ℕ → Type 0
TurnEnds left start (Ok (Open session)) count stop rest =
    (count ≡ 1) × (stop ≡ More) × (waiting session ≡ rest) × (replies session ≡ start + 1)
TurnEnds left start (Ok (Ended served)) count stop rest =
    (count ≡ 0) × (served.requests ≡ start + begun stop) × Ends (start == 999) left stop rest served.end
TurnEnds left start (Err fault.Read) count stop rest = (count ≡ 0) × (stop ≡ Waits)
TurnEnds left start (Err fault.Write) count stop rest = count ≡ 0
TurnEnds left start (Err fault.Memory) count stop rest = ⊥

-- how a whole session ends
abbrev pub SessionEnds : Option (List ℕ) → ℕ → Result Served Fault → ℕ → Stop → List ℕ → Type 0
SessionEnds left start (Ok served) count stop rest =
    (served.requests ≡ start + count + begun stop) × Ends (start + count == 999) left stop rest served.end
SessionEnds left start (Err fault.Read) count stop rest = stop ≡ Waits
SessionEnds left start (Err fault.Write) count stop rest = ⊤
SessionEnds left start (Err fault.Memory) count stop rest = (count ≡ 0) × (stop ≡ More)

-- the session goes on after a reply that came out so, or ends
abbrev pub GoesOn : Session → Bool → Handled → Turn → Type 0
GoesOn session closes outcome (Open next) =
    (closes ≡ false) × (outcome ≡ handled.Answered) × (waiting next ≡ waiting session) × (replies next ≡ replies session + 1)
GoesOn session closes outcome (Ended served) =
    (served.requests ≡ replies session + 1) × (end_after closes (Some outcome) ≡ Some served.end)

-- the reply that rejects a message was written, or a first part of it
abbrev pub Rejects : ℕ → Status → Option (List ℕ) → Option (List ℕ) → Result Turn Fault → Type 0
Rejects start status old new (Ok (Open session)) = ⊥
Rejects start status old new (Ok (Ended served)) =
    (served.requests ≡ start + 1) × (served.end ≡ Refused) × Appends old new (empty_reply status None true)
Rejects start status old new (Err fault.Read) = ⊥
Rejects start status old new (Err fault.Write) = AppendsPart old new (empty_reply status None true)
Rejects start status old new (Err fault.Memory) = ⊥

-- what comes of a reply: the session goes on or ends, or a write failed
abbrev pub Comes : Session → Bool → Result Handled Failed → Result Turn Fault → Type 0
Comes session closes (Ok outcome) (Ok turn) = GoesOn session closes outcome turn
Comes session closes (Ok outcome) (Err fault) = ⊥
Comes session closes (Err failed) (Ok turn) = ⊥
Comes session closes (Err failed) (Err fault.Read) = ⊥
Comes session closes (Err failed) (Err fault.Write) = ⊤
Comes session closes (Err failed) (Err fault.Memory) = ⊥

-- a whole message got its reply
abbrev pub RepliesTo :
    {D : Type 0} → (Use → Type 0) → (D → Call → D → Type 0) → List ℕ → List ℕ → Bool → Session
    → D → D → Option (List ℕ) → Option (List ℕ) → Result Turn Fault → Type 0
RepliesTo IsFit steps kind body closes session before behind old new result =
    (outcome : Result Handled Failed)
    × Answers IsFit steps kind body closes before behind old new outcome
    × Comes session closes outcome result

-- out of memory
abbrev pub IsMemory : {A : Type 0} → Result A Fault → Type 0
IsMemory (Ok done) = ⊥
IsMemory (Err fault.Read) = ⊥
IsMemory (Err fault.Write) = ⊥
IsMemory (Err fault.Memory) = ⊤
