-- Laws of sessions: their parts, and that a stream is cut in one way.
use Rattle.std.specs.Prelude.{◌≡◌, ◌+◌, ◌<◌, ◌⊎◌, ⊤, ℕ, Bool, true, false, ◌==◌, List, [], ◌∷◌, ◌++◌, length, take, flat_map, Option, Some}
use Rattle.std.specs.List.{AllByRecursion}
use Rattle.httparse.specs.Grammar.{EndsInTarget}
use Rattle.http_desks.specs.declared.answering.Handled.TheVariants.{Answered}
use Rattle.http_desks.specs.declared.method.Method.{Method}
use Rattle.http_desks.specs.Calls.{Call}
use Rattle.http_desks.specs.Replies.{handled_of}
use Rattle.http_desks.specs.Uses.{Use}
use Rattle.http_sessions.specs.Messages.{Exchange, IsOpen, closing, exchange_bytes, open_reply}
use Rattle.http_sessions.specs.declared.ends.End.{End}
use Rattle.http_sessions.specs.Stops.{Bad, Ends, Last, Long, More, Refuses, Stop, StopsAt, Waits, stop_bytes}
use Rattle.http_sessions.specs.Sessions.{Serves}

-- this many messages, this stop and these bytes after them
abbrev pub Comes : ℕ → Stop → List ℕ → ℕ → Stop → List ℕ → Type 0
Comes count stop rest messages found after = (messages ≡ count) × (found ≡ stop) × (after ≡ rest)

-- a part of a session, and a part that goes on where it ended, are one part
abbrev pub AreJoined :
    {D : Type 0} → (Method → List ℕ → Use → Type 0) → (D → Call → D → Type 0) → List ℕ → Type 0
AreJoined {D} IsFit steps kind =
    (start count more : ℕ) (first waits rest : List ℕ) (stop : Stop) (whole : Bool)
    (left mid after old between new : Option (List ℕ)) (before amid behind : D)
    → Serves IsFit steps kind start (Comes count More waits) true first left mid old between before amid
    → Serves IsFit steps kind (start + count) (Comes more stop rest) whole waits mid after between new amid behind
    → Serves IsFit steps kind start (Comes (count + more) stop rest) whole first left after old new before behind

-- any use fits
abbrev pub IsAnyUse : Method → List ℕ → Use → Type 0
IsAnyUse method target used = ⊤

-- the uses are these, from this place on
abbrev pub AreUses : (ℕ → Use) → ℕ → List Exchange → Type 0
AreUses uses start [] = ⊤
AreUses uses start (e ∷ exchanges) = (e.used ≡ uses start) × AreUses uses (start + 1) exchanges

-- the last message, if the stop has one
abbrev pub last_of : Stop → List Exchange
last_of More = []
last_of Waits = []
last_of Bad = []
last_of Long = []
last_of (Refuses head status) = []
last_of (Last e) = e ∷ []

-- nothing goes on after it
abbrev pub IsFinal : Bool → Stop → Type 0
IsFinal last More = ⊥
IsFinal last Waits = ⊤
IsFinal last Bad = ⊤
IsFinal last Long = ⊤
IsFinal last (Refuses head status) = ⊤
IsFinal last (Last e) = closing last e.head ≡ false → handled_of e.used ≡ Some Answered → ⊥

-- the whole stream is these messages and a rest, and the uses are these in their order
pub record IsCut
    (stream : List ℕ) (uses : ℕ → Use) (start : ℕ) (exchanges : List Exchange) (stop : Stop) (rest : List ℕ)
    : Type 0 where
  pub cut : stream ≡ flat_map exchange_bytes exchanges ++ rest
  pub each : AllByRecursion (IsOpen IsAnyUse) exchanges
  pub few : start + length exchanges < 1000
  pub stops : StopsAt IsAnyUse stop rest
  pub follows : AreUses uses start (exchanges ++ last_of stop)
  pub final : IsFinal (start + length exchanges == 999) stop

-- what is written
abbrev pub cut_bytes : List ℕ → ℕ → List Exchange → Stop → List ℕ
cut_bytes kind start exchanges stop =
    flat_map (open_reply kind) exchanges ++ stop_bytes kind (start + length exchanges == 999) stop

-- a stream is cut in one way, and with the same uses the same bytes are written; but where the rest
-- ends within a target, whose bytes may be invalid
abbrev pub IsOneCut : Type 0
IsOneCut =
    (stream kind : List ℕ) (uses : ℕ → Use) (start : ℕ) (first second : List Exchange) (one two : Stop) (rest left : List ℕ)
    → IsCut stream uses start first one rest → IsCut stream uses start second two left
    → (first ≡ second) × (rest ≡ left)
    × ((cut_bytes kind start first one ≡ cut_bytes kind start second two) ⊎ EndsInTarget (take 16384 rest))

-- a session that ended so
abbrev pub IsEnd : Option (List ℕ) → ℕ → End → ℕ → Stop → List ℕ → Type 0
IsEnd left start how count stop rest = Ends (start + count == 999) left stop rest how

-- what is after the messages ends within a target
abbrev pub EndsWithin : List ℕ → List Exchange → Type 0
EndsWithin stream exchanges =
    (rest : List ℕ) × (stream ≡ flat_map exchange_bytes exchanges ++ rest) × EndsInTarget (take 16384 rest)

-- two sessions over the same bytes, in whatever pieces, write the same if their messages came to the
-- same uses; but where the rest ends within a target
abbrev pub AreAlike :
    {D : Type 0} → (Method → List ℕ → Use → Type 0) → (D → Call → D → Type 0) → List ℕ → Type 0
AreAlike {D} IsFit steps kind =
    (stream old : List ℕ) (uses : ℕ → Use) (start : ℕ) (how ended : End)
    (left over new now : Option (List ℕ)) (before behind first last : D)
    → (one : Serves IsFit steps kind start (IsEnd left start how) true [] (Some stream) left (Some old) new before behind)
    → (two : Serves IsFit steps kind start (IsEnd over start ended) true [] (Some stream) over (Some old) now first last)
    → AreUses uses start (one.exchanges ++ last_of one.stop)
    → AreUses uses start (two.exchanges ++ last_of two.stop)
    → (new ≡ now) ⊎ EndsWithin stream one.exchanges
