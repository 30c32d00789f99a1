-- What is said on a connection so far: messages and their replies (RFC 9112, section 9.3), in any parts; this project's
-- profile.
use Rattle.std.specs.Prelude.{◌≡◌, ◌⊎◌, ⊤, ◌+◌, ◌<◌, ℕ, Bool, true, false, ◌==◌, List, [], ◌++◌, drop, length, flat_map, Option, None, Some}
use Rattle.std.specs.List.{AllByRecursion}
use Rattle.http_desks.specs.declared.method.Method.{Method}
use Rattle.http_desks.specs.Calls.{Call}
use Rattle.http_desks.specs.Replies.{empty_reply}
use Rattle.http_desks.specs.Transfers.{IsAt as HasMade, package_size}
use Rattle.http_desks.specs.Uses.{Broken, Fetched, Use}
use Rattle.http_sessions.specs.declared.ends.End.{End}
use Rattle.http_sessions.specs.Messages.{Exchange, IsOpen, closing, exchange_bytes, exchange_calls, open_reply}
use Rattle.http_sessions.specs.Readings.{IsPart}
use Rattle.http_sessions.specs.Stops.{Ends, Last, More, Stop, StopsAt, Waits, begun, stop_bytes, stop_calls}
use Rattle.http_wire.specs.declared.heads.status.Status.TheVariants as status
use Rattle.http_ports.specs.Speech.{Busy, Over, Phase, Waiting}
use Rattle.http_ports.specs.declared.timestamp.Timestamp.{Timestamp}
use Rattle.http_sessions.specs.Timestamps.{ArePlaced, AreTimed, IsLastTimed}
use Rattle.http_sessions.specs.declared.talks.talk.Sending.{Sending}
use Rattle.http_sessions.specs.declared.talks.talk.Stage.{Stage}
use Rattle.http_sessions.specs.declared.talks.talk.Stage.TheVariants as stage
use Rattle.http_sessions.specs.declared.talks.talk.Talk.{Talk}

-- what was made and is not yet sent
abbrev pub pending : Talk → List ℕ
pending talk = drop talk.sent talk.made.items

-- what waits, if a message may begin with it
abbrev pub waiting_at : Stage → List ℕ → Option (List ℕ)
waiting_at stage.Busy kept = Some kept
waiting_at stage.Part kept = None
waiting_at (stage.Sends sending) kept = None
waiting_at stage.Over kept = None
waiting_at stage.Failed kept = None
waiting_at stage.Lost kept = None

abbrev pub waiting_of : Talk → Option (List ℕ)
waiting_of talk = waiting_at talk.stage talk.kept.items

-- how the connection goes on once all is sent
abbrev pub phase_of : Stage → Phase
phase_of stage.Busy = Busy
phase_of stage.Part = Waiting
phase_of (stage.Sends sending) = Busy
phase_of stage.Over = Over
phase_of stage.Failed = Over
phase_of stage.Lost = Over

-- memory ran out for it
abbrev pub is_lost : Stage → Bool
is_lost stage.Busy = false
is_lost stage.Part = false
is_lost (stage.Sends sending) = false
is_lost stage.Over = false
is_lost stage.Failed = true
is_lost stage.Lost = true

-- a package is sent, of which there are more blocks
abbrev pub IsSending : Stage → Type 0
IsSending stage.Busy = ⊥
IsSending stage.Part = ⊥
IsSending (stage.Sends sending) = ⊤
IsSending stage.Over = ⊥
IsSending stage.Failed = ⊥
IsSending stage.Lost = ⊥

-- with more bytes after them, but fewer than so many in all, they are still less than a message
abbrev pub StaysPart : List ℕ → ℕ → Type 0
StaysPart bytes need = (more : List ℕ) → length (bytes ++ more) < need → IsPart (bytes ++ more)

-- the last message is used for a package of which these full blocks were made
pub record IsSent (last : Bool) (sending : Sending) (e : Exchange) (blocks : List (List ℕ)) : Type 0 where
  pub used : e.used ≡ Fetched sending.name.items sending.declared (Broken blocks)
  pub closes : sending.closes ≡ closing last e.head
  pub size : package_size sending.transfer ≡ sending.declared.size
  pub blocks_made : HasMade blocks sending.transfer

-- a package is sent, as the reply to the message that these bytes are
abbrev pub SendsFor : Bool → Sending → Stop → List ℕ → Type 0
SendsFor last sending stop rest =
    (e : Exchange) × (blocks : List (List ℕ)) × (stop ≡ Last e) × (rest ≡ exchange_bytes e) × IsSent last sending e blocks

-- how far the session is after so many messages: by what is after them, and what was not looked at
abbrev pub IsAt : Stage → ℕ → List ℕ → ℕ → ℕ → Stop → List ℕ → List ℕ → Type 0
IsAt stage.Busy replies kept need count stop rest unread = (stop ≡ More) × (replies ≡ count) × (kept ≡ rest ++ unread)
IsAt stage.Part replies kept need count stop rest unread =
    (stop ≡ Waits) × (replies ≡ count) × (kept ≡ rest) × (unread ≡ []) × StaysPart kept need
IsAt (stage.Sends sending) replies kept need count stop rest unread =
    (sending.closes ≡ false → replies ≡ count + 1) × (kept ≡ unread) × SendsFor (count == 999) sending stop rest
IsAt stage.Over replies kept need count stop rest unread =
    (how : End) × Ends (count == 999) (Some unread) stop rest how × (begun stop ≡ 1)
IsAt stage.Failed replies kept need count stop rest unread = begun stop ≡ 1
IsAt stage.Lost replies kept need count stop rest unread = ⊤

-- rule: Reply without memory
-- the reply in place of one for which memory ran out
abbrev pub failure_reply : List ℕ
failure_reply = empty_reply status.InternalServerError None true

-- what was sent and what is pending are the replies to the messages before the last one, and the reply to that one. If
-- memory ran out for it, it is another reply; or a first part of both was sent, and some bytes of the last one, if it has any
abbrev pub AreReplies : Stage → List ℕ → List ℕ → List ℕ → List ℕ → Type 0
AreReplies stage.Busy sent pending earlier last = sent ++ pending ≡ earlier ++ last
AreReplies stage.Part sent pending earlier last = sent ++ pending ≡ earlier ++ last
AreReplies (stage.Sends sending) sent pending earlier last = sent ++ pending ≡ earlier ++ last
AreReplies stage.Over sent pending earlier last = sent ++ pending ≡ earlier ++ last
AreReplies stage.Failed sent pending earlier last = sent ++ pending ≡ earlier ++ failure_reply
AreReplies stage.Lost sent pending earlier last =
    (pending ≡ []) × ((left : List ℕ) × (earlier ++ last ≡ sent ++ left))
    × ((last ≡ []) ⊎ (length earlier < length sent))

-- rule: Session over a port
-- the bytes that were received are messages, each after the one before, that kept the connection open, and a rest; the
-- desk was called for each, at one of these timestamps, and each was replied to, in order; bytes waited for a message only
-- between two replies. A message for which the desk was called gets a reply also if memory runs out
pub record Said (IsFit : Method → List ℕ → Use → Type 0) (kind : List ℕ) (timestamps : List Timestamp) (talk : Talk)
    (received sent : List ℕ) (calls : List Call) : Type 0 where
  pub exchanges : List Exchange
  pub stop : Stop
  pub rest : List ℕ
  pub unread : List ℕ
  pub cut : received ≡ flat_map exchange_bytes exchanges ++ (rest ++ unread)
  pub each : AllByRecursion (IsOpen IsFit) exchanges
  pub few : length exchanges < 1000
  pub stops : StopsAt IsFit stop rest
  pub called : calls ≡ flat_map exchange_calls exchanges ++ stop_calls stop
  pub timed : AreTimed kind timestamps 0 0 exchanges
  pub last_timed : IsLastTimed timestamps (length (flat_map exchange_bytes exchanges))
      (length (flat_map (open_reply kind) exchanges)) stop
  pub placed : ArePlaced kind exchanges timestamps
  pub replies : AreReplies talk.stage sent (pending talk)
      (flat_map (open_reply kind) exchanges) (stop_bytes kind (length exchanges == 999) stop)
  pub is_at : IsAt talk.stage talk.begun talk.kept.items talk.need (length exchanges) stop rest unread
