-- What the JSON gateway of etcd 3 replies; the JSON form of proto3 leaves out what is false, 0 or empty.
use Rattle.std.specs.Prelude.{◌≡◌, ℕ, ◌==◌, ◌||◌, Bool, true, false, not, List, codes, if◌then◌else◌, Option, Some, None, is_some, option_map, option_and_then, unwrap_or}
use Rattle.std.specs.Str.{is_utf8}
use Rattle.serde_json.specs.Data.{Data}
use Rattle.serde_json.specs.Find.{get, as_bool, as_str, pointer}
use Rattle.serde_json.specs.Read.{read}
use Rattle.serde_json.specs.View.{view}
use Rattle.kept_records.specs.declared.fault.Cause.{Cause}
use Rattle.kept_records.specs.declared.fault.Cause.TheVariants as cause
use Rattle.kept_records.specs.declared.fault.Unreached.{Unreached}
use Rattle.kept_records.specs.declared.fault.Unreached.TheVariants.{NoReply}
use Rattle.etcd_records.specs.declared.exchange.Outcome.{Outcome}
use Rattle.etcd_records.specs.declared.exchange.Outcome.TheVariants.{Responded, Missed}
use Rattle.etcd_records.specs.declared.headers.Header.{Header}
use Rattle.etcd_records.specs.Headers.{header_of, trouble_in}
use Rattle.etcd_records.specs.declared.gateway.GatewayFault.TheVariants as fault
use Rattle.etcd_records.specs.declared.replies.Said.{Said}
use Rattle.etcd_records.specs.declared.replies.Said.TheVariants as said

-- the JSON value that the bytes are, if they are UTF-8 and JSON as `serde_json` takes it
abbrev pub json_of : List ℕ → Option Data
json_of body = if is_utf8 body then read body else None

-- the value, if it has a header
abbrev pub with_header : Data → Option Data
with_header reply = if is_some (header_of reply) then Some reply else None

-- rule: Reply of etcd
-- the reply that the bytes are: JSON with a header, which each reply of etcd has
unfoldable pub reply_of : List ℕ → Option Data
reply_of body = option_and_then with_header (json_of body)

-- etcd's reply in what came of a request, if it is one
abbrev pub reply_in : Outcome → Option Data
reply_in (Responded status body) = if status == 200 then reply_of body else None
reply_in (Missed fault) = None

-- the reply, unless it doesn't count after one with that header
abbrev pub counted : Option Header → Option Data → Option Data
counted seen None = None
counted seen (Some reply) = if is_some (trouble_in seen reply) then None else Some reply

-- rule: Replies of one cluster
-- etcd's reply in what came of a request, if it is one and counts
abbrev pub counted_in : Option Header → Outcome → Option Data
counted_in seen came = counted seen (reply_in came)

-- rule: Rejected request
-- a server with this status has not carried the request out: it has too many bytes, for etcd or for a proxy
abbrev pub rejects : ℕ → Bool
rejects status = status == 400 || status == 413

-- a server may have carried the request out, although no reply says so
abbrev pub may_be_done : Outcome → Bool
may_be_done (Responded status body) = if status == 200 then true else not (rejects status)
may_be_done (Missed fault.Unsent) = false
may_be_done (Missed fault.Unanswered) = true
may_be_done (Missed fault.Memory) = true

-- why a reply doesn't count, if there is one, or can't be read
abbrev pub trouble_cause : Option Unreached → Cause
trouble_cause None = cause.Unreadable
trouble_cause (Some why) = cause.Unreachable why

-- why no reply counts
abbrev pub cause_of : Option Header → Outcome → Cause
cause_of seen (Responded status body) =
    if status == 200 then trouble_cause (option_and_then (trouble_in seen) (reply_of body))
    else if rejects status then cause.TooLarge else cause.Unreachable NoReply
cause_of seen (Missed fault.Unsent) = cause.Unreachable NoReply
cause_of seen (Missed fault.Unanswered) = cause.Unreachable NoReply
cause_of seen (Missed fault.Memory) = cause.Memory

-- what a reply with the status 200 says, or what is none of etcd
abbrev pub SaysBy : Option Header → Option Data → Said → Type 0
SaysBy seen read (said.Reply reply) = counted seen read ≡ Some (view reply)
SaysBy seen read (said.Missed why is_doubtful) =
    (counted seen read ≡ None) × (why ≡ trouble_cause (option_and_then (trouble_in seen) read)) × (is_doubtful ≡ true)

-- rule: Attempt at a request
-- an attempt brought this reply, which counts after one with that header, or none that does
abbrev pub Says : Option Header → Outcome → Said → Type 0
Says seen came (said.Reply reply) = counted_in seen came ≡ Some (view reply)
Says seen came (said.Missed why is_doubtful) =
    (counted_in seen came ≡ None) × (why ≡ cause_of seen came) × (is_doubtful ≡ may_be_done came)

-- a transaction put its value
abbrev pub is_created : Data → Bool
is_created reply = unwrap_or (option_and_then as_bool (get (codes "succeeded") reply)) false

-- the value in base64 of a key and its value
abbrev pub pair_value : Data → List ℕ
pair_value pair = unwrap_or (option_and_then as_str (get (codes "value") pair)) (codes "")

-- the value in base64 that a transaction found at its key
abbrev pub held_in : Data → Option (List ℕ)
held_in reply = option_map pair_value (pointer (codes "/responses/0/response_range/kvs/0") reply)

-- the value in base64 that a read found at its key
abbrev pub found_in : Data → Option (List ℕ)
found_in reply = option_map pair_value (pointer (codes "/kvs/0") reply)
