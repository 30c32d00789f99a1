-- What is said on connections, and how they end; this project's profile.
use Rattle.std.specs.Prelude.{◌≡◌, ◌⊎◌, ◌<◌, ℕ, Bool, true, false, List, [], ◌∷◌, ◌++◌, length, sum_by, Option}
use Rattle.http_desks.specs.Calls.{Call}
use Rattle.http_ports.specs.Traffic.{FitClock, Traffic}
use Rattle.http_ports.specs.declared.last.Last.{Last}
use Rattle.http_ports.specs.declared.last.Last.TheVariants.{InputEnded, ReadFailed, WaitsToRead, WaitsToWrite, WriteFailed}
use Rattle.http_ports.specs.declared.timestamp.Timestamp.{Timestamp}
use Rattle.http_ports.specs.declared.protocol.Next.{Next}
use Rattle.http_ports.specs.declared.protocol.Next.TheVariants as next

-- how a connection goes on once all that was made is sent: it makes more, waits for bytes, or is over
pub data Phase : Type 0 where
  Busy : Phase
  Waiting : Phase
  Over : Phase

-- how it goes on, as it is reported
abbrev pub IsNext : Next → List ℕ → Phase → Type 0
IsNext next.Made pending phase = 0 < length pending
IsNext next.Waits pending phase = (pending ≡ []) × (phase ≡ Waiting)
IsNext next.Over pending phase = (pending ≡ []) × (phase ≡ Over)

-- what is said on a connection: by what is kept of it, which bytes are pending, its phase, whether memory ran out for
-- it, and what was received, sent and asked of the desk so far, at which timestamps
pub record Speech (C : Type 0) : Type 1 where
  pub pending : C → List ℕ
  pub phase : C → Phase
  pub is_lost : C → Bool
  pub so_far : List Timestamp → C → List ℕ → List ℕ → List Call → Type 0

-- the same, of a protocol with a desk of this path and type, at a port with this clock
abbrev pub speech_at :
    {C : Type 0} → Option ℕ → (C → List ℕ) → (C → Phase) → (C → Bool) →
    (List ℕ → List ℕ → List Timestamp → C → List ℕ → List ℕ → List Call → Type 0) → List ℕ → List ℕ → Speech C
speech_at stopped pending phase is_lost so_far path kind = record {
  pending = pending;
  phase = phase;
  is_lost = is_lost;
  so_far = λ timestamps conn received sent calls.
      FitClock stopped timestamps × so_far path kind timestamps conn received sent calls;
}

-- rule: Close of a connection
-- a connection ends only so: it is over and all is sent; or it waits for bytes and all is sent, and the input has
-- ended, a read failed or its time is up; or bytes are left, and a write failed or the time of its peer is up
abbrev pub IsEnd : Phase → List ℕ → Last → Bool → Type 0
IsEnd phase pending last expired =
    ((pending ≡ []) × (phase ≡ Over))
    ⊎ ((pending ≡ []) × (phase ≡ Waiting)
    × ((last ≡ InputEnded) ⊎ (last ≡ ReadFailed) ⊎ ((last ≡ WaitsToRead) × (expired ≡ true))))
    ⊎ ((0 < length pending) × ((last ≡ WriteFailed) ⊎ ((last ≡ WaitsToWrite) × (expired ≡ true))))

-- rule: Connection of a port
-- a connection that has ended, by what was kept of it at its end: the desk's calls are just those for what was
-- received, and what was sent is just what they made, or a first part of it if the peer took no more
pub record IsWhole {C : Type 0} (speech : Speech C) (traffic : Traffic) (conn : C) (calls : List Call) : Type 0 where
  pub came : speech.so_far traffic.timestamps conn traffic.received traffic.sent calls
  pub ended : IsEnd (speech.phase conn) (speech.pending conn) traffic.last traffic.expired

-- the connections of a slot, the latest first, one after the other, by what was kept of each at its end
abbrev pub AreWhole : {C : Type 0} → Speech C → List Traffic → List C → List Call → Type 0
AreWhole speech [] [] calls = calls ≡ []
AreWhole speech [] (conn ∷ conns) calls = ⊥
AreWhole speech (traffic ∷ earlier) [] calls = ⊥
AreWhole speech (traffic ∷ earlier) (conn ∷ conns) calls =
    (before : List Call) × (own : List Call) × (calls ≡ before ++ own)
    × AreWhole speech earlier conns before × IsWhole speech traffic conn own

-- one if memory ran out for the connection
abbrev pub one_if : Bool → ℕ
one_if true = 1
one_if false = 0

-- for how many connections memory ran out
abbrev pub lost_among : {C : Type 0} → Speech C → List C → ℕ
lost_among {C} speech conns = sum_by (λ (conn : C). one_if (speech.is_lost conn)) conns
