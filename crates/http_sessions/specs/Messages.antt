-- The messages of a connection: a head by the grammar of `httparse`, and a body of the length that
-- the head gives (RFC 9112, sections 2 and 6). The limits are this project's profile.
use Rattle.std.specs.Prelude.{◌≡◌, ◌≤◌, ℕ, Bool, ◌||◌, false, List, ◌++◌, length, map, Some, Result, Ok, Err, if◌then◌else◌, nat_le}
use Rattle.httparse.specs.Grammar.{IsRequestHead, ReadsRequest, RequestHead, print_request}
use Rattle.httparse.specs.Spans.{name_and_value}
use Rattle.http_wire.specs.Browsers.{is_from_browser}
use Rattle.http_wire.specs.Closing.{closes_after}
use Rattle.http_wire.specs.Fields.{Pair}
use Rattle.http_wire.specs.Framing.{framing_of}
use Rattle.http_wire.specs.Hosts.{is_for_another}
use Rattle.http_wire.specs.declared.heads.status.Status.{Status}
use Rattle.http_wire.specs.declared.heads.status.Status.TheVariants as status
use Rattle.http_desks.specs.declared.answering.Handled.TheVariants.{Answered}
use Rattle.http_desks.specs.declared.method.Method.{Method}
use Rattle.http_desks.specs.Calls.{Call}
use Rattle.http_desks.specs.Replies.{handled_of, reply_to}
use Rattle.http_desks.specs.Uses.{Use, calls_of, method_of}

-- a whole message, and what became of it
pub record Exchange : Type 0 where
  pub head : RequestHead
  pub body : List ℕ
  pub used : Use

-- the bytes of the message
abbrev pub exchange_bytes : Exchange → List ℕ
exchange_bytes e = print_request e.head ++ e.body

-- the names and values of a head's fields
abbrev pub fields_of : RequestHead → List Pair
fields_of head = map name_and_value head.fields

-- rule: Length of a message
-- the length of the body, or the status that rejects the message; 64 fields at most
unfoldable pub message_length : RequestHead → Result ℕ Status
message_length head =
    if nat_le (length head.fields) 64 then framing_of head.method (fields_of head) else Err status.BadRequest

-- the method, by whether a browser sends the message, and whether it is for another host
abbrev pub method_in : RequestHead → Method
method_in head = method_of head.method (is_from_browser (fields_of head)) (is_for_another (fields_of head))

-- the head asks for the end of the connection
abbrev pub asks_close : RequestHead → Bool
asks_close head = closes_after head.minor (fields_of head)

-- the connection ends after the reply: the head asks for it, or no further message is accepted
abbrev pub closing : Bool → RequestHead → Bool
closing last head = asks_close head || last

-- the bytes begin with this head, and then the others follow
abbrev pub BeginsWith : List ℕ → RequestHead → List ℕ → Type 0
BeginsWith bytes head after = ReadsRequest bytes head after × (length (print_request head) ≤ 16384)

-- the head is valid and fits its limits, the body is as long as the head says, and the use fits
pub record IsExchange (IsFit : Method → List ℕ → Use → Type 0) (e : Exchange) : Type 0 where
  pub head : IsRequestHead e.head
  pub short : length (print_request e.head) ≤ 16384
  pub framed : message_length e.head ≡ Ok (length e.body)
  pub fits : IsFit (method_in e.head) e.head.target e.used

-- the connection goes on after it: no end was asked for, and the reply is whole
pub record IsOpen (IsFit : Method → List ℕ → Use → Type 0) (e : Exchange) : Type 0 where
  pub exchange : IsExchange IsFit e
  pub stays : asks_close e.head ≡ false
  pub whole : handled_of e.used ≡ Some Answered

-- the reply, while the connection goes on
abbrev pub open_reply : List ℕ → Exchange → List ℕ
open_reply kind e = reply_to kind false e.used

-- the calls of the desk
abbrev pub exchange_calls : Exchange → List Call
exchange_calls e = calls_of e.body e.used
