-- What each call of a port does to the traffic at its slots; this project's profile.
use Rattle.std.specs.Prelude.{◌≡◌, ◌⊎◌, ◌<◌, ◌≤◌, ⊤, ℕ, true, List, ◌++◌, length, take, None, Some}
use Rattle.http_ports.specs.declared.event.Event.{Event}
use Rattle.http_ports.specs.declared.event.Event.TheVariants as event
use Rattle.http_ports.specs.declared.event.Received.{Received}
use Rattle.http_ports.specs.declared.event.Received.TheVariants as received
use Rattle.http_ports.specs.declared.event.Sent.{Sent}
use Rattle.http_ports.specs.declared.event.Sent.TheVariants as sent
use Rattle.http_ports.specs.Traffic.{Changes, Elsewhere, IsOpen, Slot, Traffic, marked, no_traffic, with_ended, with_open}
use Rattle.http_ports.specs.declared.last.Last.{Last}
use Rattle.http_ports.specs.declared.last.Last.TheVariants.{InputEnded, Passed, ReadFailed, Reported, WaitsToRead, WaitsToWrite, WriteFailed, Yields}

-- the connection waits for its peer
abbrev pub IsWaiting : Last → Type 0
IsWaiting last = (last ≡ WaitsToRead) ⊎ (last ≡ WaitsToWrite)

-- rule: Rest of a connection
-- nothing is left to do for the connection before the next wait: it waits for its peer, or is to be reported again
abbrev pub Rests : Slot → Type 0
Rests slot = (traffic : Traffic) → slot.current ≡ Some traffic → IsWaiting traffic.last ⊎ (traffic.last ≡ Yields)

-- its time is up
abbrev pub expiring : Traffic → Traffic
expiring traffic = record traffic { expired = true }

-- rule: Events of a port
-- what a wait reports, and the traffic then
abbrev pub Reports : ℕ → Event → (ℕ → Slot) → (ℕ → Slot) → Type 0
Reports capacity (event.Accepted at) old new =
    (at < capacity) × ((old at).current ≡ None) × (new at ≡ with_open (old at) no_traffic) × Elsewhere at old new
Reports capacity (event.Ready at) old new =
    (at < capacity) × IsOpen (old at) × Changes at (marked Reported) old new
Reports capacity (event.Expired at) old new =
    (at < capacity) × ((traffic : Traffic) × ((old at).current ≡ Some traffic) × IsWaiting traffic.last)
    × Changes at expiring old new
Reports capacity event.Done old new = ((k : ℕ) → (old k).current ≡ None) × ((k : ℕ) → new k ≡ old k)

-- how many connections an event accepts
abbrev pub accepted_by : Event → ℕ
accepted_by (event.Accepted at) = 1
accepted_by (event.Ready at) = 0
accepted_by (event.Expired at) = 0
accepted_by event.Done = 0

-- there are no more events
abbrev pub IsDone : Event → Type 0
IsDone (event.Accepted at) = ⊥
IsDone (event.Ready at) = ⊥
IsDone (event.Expired at) = ⊥
IsDone event.Done = ⊤

-- these bytes came
abbrev pub receiving : List ℕ → Traffic → Traffic
receiving bytes traffic = record traffic { received = traffic.received ++ bytes; last = Passed }

-- these bytes were sent
abbrev pub sending : List ℕ → Traffic → Traffic
sending bytes traffic = record traffic { sent = traffic.sent ++ bytes; last = Passed }

-- rule: Reads of a port
-- what a read gave, and the cells that it read into
abbrev pub Reads : ℕ → Received → List ℕ → (ℕ → Slot) → (ℕ → Slot) → Type 0
Reads at (received.Bytes count) cells old new =
    (0 < count) × (count ≤ length cells) × Changes at (receiving (take count cells)) old new
Reads at received.Nothing cells old new = Changes at (marked WaitsToRead) old new
Reads at received.End cells old new = Changes at (marked InputEnded) old new
Reads at received.Failure cells old new = Changes at (marked ReadFailed) old new

-- rule: Writes of a port
-- how many of the bytes a write took
abbrev pub Writes : ℕ → Sent → List ℕ → (ℕ → Slot) → (ℕ → Slot) → Type 0
Writes at (sent.Bytes count) bytes old new =
    (0 < count) × (count ≤ length bytes) × Changes at (sending (take count bytes)) old new
Writes at sent.Nothing bytes old new = Changes at (marked WaitsToWrite) old new
Writes at sent.Failure bytes old new = Changes at (marked WriteFailed) old new

-- the connection of the slot ends
abbrev pub Closes : ℕ → (ℕ → Slot) → (ℕ → Slot) → Type 0
Closes at old new =
    ((traffic : Traffic) → (old at).current ≡ Some traffic → new at ≡ with_ended (old at) traffic)
    × Elsewhere at old new
