-- What a connection's bytes come to after the messages that kept it open; this project's profile.
use Rattle.std.specs.Prelude.{◌≡◌, ◌<◌, ◌⊎◌, ⊤, ℕ, Bool, true, List, [], ◌∷◌, ◌++◌, length, take, Option, None, Some, Ok, Err, if◌then◌else◌}
use Rattle.std.specs.Io.KnownBytes.{IsAtEnd}
use Rattle.httparse.specs.Grammar.{NeverHasRequest, RequestHead}
use Rattle.http_wire.specs.declared.heads.status.Status.{Status}
use Rattle.http_wire.specs.declared.heads.status.Status.TheVariants as status
use Rattle.http_wire.specs.Heads.{IsLongHead, IsPartOfHead}
use Rattle.http_desks.specs.declared.answering.Handled.{Handled}
use Rattle.http_desks.specs.declared.answering.Handled.TheVariants as handled
use Rattle.http_desks.specs.declared.method.Method.{Method}
use Rattle.http_desks.specs.Calls.{Call}
use Rattle.http_desks.specs.Replies.{empty_reply, handled_of, reply_to}
use Rattle.http_desks.specs.Uses.{Use}
use Rattle.http_sessions.specs.declared.ends.End.{End}
use Rattle.http_sessions.specs.declared.ends.End.TheVariants.{Finished, Unfinished, Refused, Cut}
use Rattle.http_sessions.specs.Messages.{BeginsWith, Exchange, IsExchange, closing, exchange_bytes, exchange_calls, message_length}

-- it goes on; less than a message is left; the bytes are no head; they are no whole head within its
-- limit; the head rejects its message; or the last message
pub data Stop : Type 0 where
  More : Stop
  Waits : Stop
  Bad : Stop
  Long : Stop
  Refuses : RequestHead → Status → Stop
  Last : Exchange → Stop

-- a whole head, and less than its body
pub record IsPartOfBody (bytes : List ℕ) : Type 0 where
  pub head : RequestHead
  pub after : List ℕ
  pub size : ℕ
  pub begins : BeginsWith bytes head after
  pub framed : message_length head ≡ Ok size
  pub short : length after < size

-- rule: Messages of a connection
-- what the bytes after the messages begin with
abbrev pub StopsAt : (Method → List ℕ → Use → Type 0) → Stop → List ℕ → Type 0
StopsAt IsFit More rest = ⊤
StopsAt IsFit Waits rest = IsPartOfHead rest ⊎ IsPartOfBody rest
StopsAt IsFit Bad rest = NeverHasRequest (take 16384 rest)
StopsAt IsFit Long rest = IsLongHead (take 16384 rest)
StopsAt IsFit (Refuses head status) rest =
    (after : List ℕ) × BeginsWith rest head after × (message_length head ≡ Err status)
StopsAt IsFit (Last e) rest = (after : List ℕ) × (rest ≡ exchange_bytes e ++ after) × IsExchange IsFit e

-- rule: Rejection of a message
-- what is written then; `last` says that no further message is accepted
abbrev pub stop_bytes : List ℕ → Bool → Stop → List ℕ
stop_bytes kind last More = []
stop_bytes kind last Waits = []
stop_bytes kind last Bad = empty_reply status.BadRequest None true
stop_bytes kind last Long = empty_reply status.FieldsTooLarge None true
stop_bytes kind last (Refuses head status) = empty_reply status None true
stop_bytes kind last (Last e) = reply_to kind (closing last e.head) e.used

-- the calls of the desk then
abbrev pub stop_calls : Stop → List Call
stop_calls More = []
stop_calls Waits = []
stop_calls Bad = []
stop_calls Long = []
stop_calls (Refuses head status) = []
stop_calls (Last e) = exchange_calls e

-- how many replies are begun then
abbrev pub begun : Stop → ℕ
begun More = 0
begun Waits = 0
begun Bad = 1
begun Long = 1
begun (Refuses head status) = 1
begun (Last e) = 1

-- the end of the input, with these bytes left
abbrev pub end_with : List ℕ → End
end_with [] = Finished
end_with (byte ∷ bytes) = Unfinished

-- the end after a reply that came out so, if there is one
abbrev pub end_after : Bool → Option Handled → Option End
end_after closes None = None
end_after closes (Some handled.Answered) = if closes then Some Finished else None
end_after closes (Some handled.Off) = Some Refused
end_after closes (Some handled.Cut) = Some Cut

-- rule: End of a session
-- how the session ended
abbrev pub Ends : Bool → Option (List ℕ) → Stop → List ℕ → End → Type 0
Ends last left More rest how = ⊥
Ends last left Waits rest how = IsAtEnd left × (how ≡ end_with rest)
Ends last left Bad rest how = how ≡ Refused
Ends last left Long rest how = how ≡ Refused
Ends last left (Refuses head status) rest how = how ≡ Refused
Ends last left (Last e) rest how = end_after (closing last e.head) (handled_of e.used) ≡ Some how
