-- What a worker's loop over the connections of a port does; this project's profile.
use Rattle.std.specs.Prelude.{◌≡◌, ◌≢◌, ◌⊎◌, ◌<◌, ℕ, zero, suc, List, [], ◌∷◌, ◌++◌, length, Option, None, Some}
use Rattle.http_desks.specs.Calls.{Call, Leads}
use Rattle.http_ports.specs.Rounds.{Round, all_calls, calls_at}
use Rattle.http_ports.specs.Speech.{AreWhole, Phase, Speech, Waiting, lost_among}
use Rattle.http_ports.specs.Sums.{connections_in, ended_in, sum_below}
use Rattle.http_ports.specs.Traffic.{Slot, Traffic}
use Rattle.http_ports.specs.declared.last.Last.TheVariants.{WaitsToRead, WaitsToWrite, Yields}

-- what is kept for a slot
abbrev pub kept_at : {C : Type 0} → List (Option C) → ℕ → Option C
kept_at [] at = None
kept_at (item ∷ items) zero = item
kept_at (item ∷ items) (suc at) = kept_at items at

-- how a connection was left: by its phase, the bytes that are pending, and its traffic
abbrev pub IsLeft : Type 1
IsLeft = Phase → List ℕ → Traffic → Type 0

-- a connection waits for its peer only so: for bytes, if all is sent; for room, if bytes are left
abbrev pub IsResting : IsLeft
IsResting phase pending traffic =
    ((traffic.last ≡ WaitsToRead) × (pending ≡ []) × (phase ≡ Waiting))
    ⊎ ((traffic.last ≡ WaitsToWrite) × (0 < length pending))
    ⊎ (traffic.last ≡ Yields)

-- each connection rests
abbrev pub all_rest : ℕ → IsLeft
all_rest at = IsResting

-- each connection rests, but that of one slot
abbrev pub rest_but : ℕ → ℕ → IsLeft
rest_but busy at phase pending traffic = at ≢ busy → IsResting phase pending traffic

-- the connection of a slot, what is kept for it, and how it was left
abbrev pub IsGoing : {C : Type 0} → Speech C → IsLeft → Option Traffic → Option C → List Call → Type 0
IsGoing speech IsSo None None calls = calls ≡ []
IsGoing speech IsSo None (Some conn) calls = ⊥
IsGoing speech IsSo (Some traffic) None calls = ⊥
IsGoing speech IsSo (Some traffic) (Some conn) calls =
    speech.so_far traffic.timestamps conn traffic.received traffic.sent calls × IsSo (speech.phase conn) (speech.pending conn) traffic

-- a slot: its ended connections are whole, and its open one is going
pub record IsServed {C : Type 0} (speech : Speech C) (IsSo : IsLeft) (slot : Slot) (ends : List C) (conn : Option C)
    (calls : List Call) : Type 0 where
  pub before : List Call
  pub own : List Call
  pub all : calls ≡ before ++ own
  pub whole : AreWhole speech slot.ended ends before
  pub going : IsGoing speech IsSo slot.current conn own

-- how many connections may be open at once, how many were accepted, and for how many memory ran out
pub record Counts : Type 0 where
  pub capacity : ℕ
  pub accepted : ℕ
  pub lost : ℕ

abbrev pub counts_of : ℕ → ℕ → ℕ → Counts
counts_of capacity accepted lost = record { capacity = capacity; accepted = accepted; lost = lost }

-- so far: the calls of the desk, in the order in which they were made; each slot; and the counts
pub record Works {C D : Type 0} (speech : Speech C) (IsSo : ℕ → IsLeft) (steps : D → Call → D → Type 0) (start now : D)
    (slots : ℕ → Slot) (conns : ℕ → Option C) (counts : Counts) : Type 0 where
  pub rounds : List Round
  pub ends : ℕ → List C
  pub leads : Leads steps start (all_calls rounds) now
  pub each : (at : ℕ) → IsServed speech (IsSo at) (slots at) (ends at) (conns at) (calls_at at rounds)
  pub accepted : counts.accepted ≡ connections_in counts.capacity slots
  pub lost : counts.lost ≡ sum_below counts.capacity (λ at. lost_among speech (ends at))

-- rule: Loop over a port
-- at the end: the calls of the desk, in the order in which they were made, lead it on; those for each slot are those of
-- its connections, one after the other; as many connections ended as were accepted; and memory ran out for so many
pub record HasServed {C D : Type 0} (speech : Speech C) (steps : D → Call → D → Type 0) (start end : D)
    (slots : ℕ → Slot) (counts : Counts) : Type 0 where
  pub rounds : List Round
  pub ends : ℕ → List C
  pub leads : Leads steps start (all_calls rounds) end
  pub each : (at : ℕ) → AreWhole speech (slots at).ended (ends at) (calls_at at rounds)
  pub accepted : counts.accepted ≡ ended_in counts.capacity slots
  pub lost : counts.lost ≡ sum_below counts.capacity (λ at. lost_among speech (ends at))
