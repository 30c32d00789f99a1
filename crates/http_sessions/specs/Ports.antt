-- What was said on all connections of a port; this project's profile.
use Rattle.std.specs.Prelude.{◌≡◌, ◌-◌, ◌^◌, ℕ, List, Option, min}
use Rattle.std.specs.List.{AllByRecursion}
use Rattle.http_desks.specs.declared.method.Method.{Method}
use Rattle.http_desks.specs.Calls.{Call}
use Rattle.http_desks.specs.Uses.{Use}
use Rattle.http_ports.specs.Loops.{HasServed, counts_of}
use Rattle.http_ports.specs.Speech.{Speech}
use Rattle.http_ports.specs.Traffic.{FitClock, Slot, Traffic}
use Rattle.http_ports.specs.declared.terms.Terms.{Terms}
use Rattle.http_sessions.specs.Talks.{Said, is_lost, pending, phase_of}
use Rattle.http_sessions.specs.declared.talks.talk.Talk.{Talk}

-- sessions, by what their messages may be used for and the type of the desk's replies
abbrev pub talk_speech : (Method → List ℕ → Use → Type 0) → List ℕ → Speech Talk
talk_speech IsFit kind = record {
  pending = pending;
  phase = λ talk. phase_of talk.stage;
  is_lost = λ talk. is_lost talk.stage;
  so_far = λ timestamps talk. Said IsFit kind timestamps talk;
}

-- the timestamps of these connections are those of a clock that has stopped at this time, or goes
abbrev pub FitEnded : Option ℕ → List Traffic → Type 0
FitEnded stopped ended = AllByRecursion (λ (traffic : Traffic). FitClock stopped traffic.timestamps) ended

-- what passed at a port: by which terms, at each of its slots, of so many connections that were accepted; and for how
-- many of them memory ran out, up to 2^64 - 1
pub record Passage : Type 0 where
  pub terms : Terms
  pub slots : ℕ → Slot
  pub accepted : ℕ
  pub lost : ℕ

-- rule: Sessions of a port
-- each connection that was accepted has ended. What was sent on it is the replies to the messages in what was received,
-- in order: all of them, or a first part if its peer took no more or memory ran out, maybe with another last one. The desk
-- was called for just these messages, in one order for all connections
abbrev pub HasTalked :
    {D : Type 0} → (Method → List ℕ → Use → Type 0) → List ℕ → (D → Call → D → Type 0) → D → D → Passage → Type 0
HasTalked IsFit kind steps start end passage =
    (lost : ℕ) × (passage.lost ≡ min lost (2 ^ 64 - 1))
    × HasServed (talk_speech IsFit kind) steps start end passage.slots (counts_of passage.terms.capacity passage.accepted lost)
