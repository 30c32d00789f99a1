-- What passes at a port: connections, each at a slot, which has one after the other; this project's profile.
use Rattle.std.specs.Prelude.{◌≡◌, ◌≢◌, ◌<◌, ◌+◌, ◌^◌, ℕ, Bool, false, List, [], ◌∷◌, ◌++◌, length, Option, None, Some}
use Rattle.std.specs.List.{AllByRecursion}
use Rattle.http_ports.specs.declared.last.Last.{Last}
use Rattle.http_ports.specs.declared.last.Last.TheVariants.{Passed, Reported}
use Rattle.http_ports.specs.declared.timestamp.Timestamp.{Timestamp}

-- a connection: the bytes that came and those that were sent, the timestamps that the port gave for it, what the last call
-- came to, and whether its time is up
pub record Traffic : Type 0 where
  pub received : List ℕ
  pub sent : List ℕ
  pub timestamps : List Timestamp
  pub last : Last
  pub expired : Bool

-- a slot: the connections that it had, the latest first, and the one that it has
pub record Slot : Type 0 where
  pub ended : List Traffic
  pub current : Option Traffic

-- a connection on which nothing has passed
abbrev pub no_traffic : Traffic
no_traffic = record { received = []; sent = []; timestamps = []; last = Reported; expired = false }

-- a slot that had no connection
abbrev pub unused : Slot
unused = record { ended = []; current = None }

-- the slot with this open connection
abbrev pub with_open : Slot → Traffic → Slot
with_open slot traffic = record { ended = slot.ended; current = Some traffic }

-- the slot after its connection was closed
abbrev pub with_ended : Slot → Traffic → Slot
with_ended slot traffic = record { ended = traffic ∷ slot.ended; current = None }

-- the slot has a connection
abbrev pub IsOpen : Slot → Type 0
IsOpen slot = (traffic : Traffic) × (slot.current ≡ Some traffic)

-- how many connections the slot had and has
abbrev pub count_open : Option Traffic → ℕ
count_open None = 0
count_open (Some traffic) = 1

abbrev pub connections_of : Slot → ℕ
connections_of slot = length slot.ended + count_open slot.current

-- each other slot is as before
abbrev pub Elsewhere : ℕ → (ℕ → Slot) → (ℕ → Slot) → Type 0
Elsewhere at old new = (k : ℕ) → k ≢ at → new k ≡ old k

-- the connection of the slot changes so, and nothing else does
abbrev pub Changes : ℕ → (Traffic → Traffic) → (ℕ → Slot) → (ℕ → Slot) → Type 0
Changes at change old new =
    ((traffic : Traffic) → (old at).current ≡ Some traffic → new at ≡ with_open (old at) (change traffic))
    × Elsewhere at old new

-- the last call for it came to this
abbrev pub marked : Last → Traffic → Traffic
marked last traffic = record traffic { last = last }

-- bytes have just passed on the connection of the slot
abbrev pub HasPassed : Slot → Type 0
HasPassed slot = (traffic : Traffic) × (slot.current ≡ Some traffic) × (traffic.last ≡ Passed)

-- a timestamp that a port gives
abbrev pub IsTime : ℕ → Type 0
IsTime seconds = seconds < 2 ^ 63

-- rule: Clock of a port
-- a timestamp by a clock that has stopped at this time, or goes
abbrev pub FitsClock : Option ℕ → ℕ → Type 0
FitsClock None seconds = IsTime seconds
FitsClock (Some stopped) seconds = seconds ≡ stopped

-- timestamps by such a clock
abbrev pub FitClock : Option ℕ → List Timestamp → Type 0
FitClock stopped timestamps = AllByRecursion (λ (timestamp : Timestamp). FitsClock stopped timestamp.seconds) timestamps

-- a timestamp of a connection on which these bytes have come and been sent, and some wait, if a message may begin with them
abbrev pub timestamp_of : ℕ → Option (List ℕ) → List ℕ → List ℕ → Timestamp
timestamp_of seconds waiting received sent =
    record { seconds = seconds; waiting = waiting; received = length received; sent = length sent }

-- rule: Timestamp of a connection
-- these timestamps, and then one more
abbrev pub later : List Timestamp → ℕ → Option (List ℕ) → List ℕ → List ℕ → List Timestamp
later timestamps seconds waiting received sent = timestamps ++ timestamp_of seconds waiting received sent ∷ []

-- a timestamp was given for the connection
abbrev pub timing : ℕ → Option (List ℕ) → Traffic → Traffic
timing seconds waiting traffic =
    record traffic { timestamps = later traffic.timestamps seconds waiting traffic.received traffic.sent }
