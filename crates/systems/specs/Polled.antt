-- What a port over sockets reports, reads and writes; this project's profile.
use Rattle.std.specs.Prelude.{◌≡◌, ◌<◌, ◌≤◌, ⊤, ℕ, List, length, Option, None, Some}
use Rattle.http_ports.specs.Ports.{Reports, accepted_by}
use Rattle.http_ports.specs.Traffic.{Slot}
use Rattle.http_ports.specs.declared.event.Event.{Event}
use Rattle.http_ports.specs.declared.event.Event.TheVariants as event
use Rattle.http_ports.specs.declared.event.Received.{Received}
use Rattle.http_ports.specs.declared.event.Received.TheVariants as received
use Rattle.http_ports.specs.declared.event.Sent.{Sent}
use Rattle.http_ports.specs.declared.event.Sent.TheVariants as sent

-- an event is of one slot
abbrev pub IsOfSlot : Event → Type 0
IsOfSlot (event.Accepted at) = ⊤
IsOfSlot (event.Ready at) = ⊤
IsOfSlot (event.Expired at) = ⊤
IsOfSlot event.Done = ⊥

-- an event of a slot, and what it changes; or nothing has happened
abbrev pub MayReport : ℕ → Option Event → (ℕ → Slot) → (ℕ → Slot) → Type 0
MayReport capacity (Some event) old new = IsOfSlot event × Reports capacity event old new
MayReport capacity None old new = (k : ℕ) → new k ≡ old k

-- a read gave a byte or more, and no more than there is room for
abbrev pub IsReceived : Received → List ℕ → Type 0
IsReceived (received.Bytes count) cells = (0 < count) × (count ≤ length cells)
IsReceived received.Nothing cells = ⊤
IsReceived received.End cells = ⊤
IsReceived received.Failure cells = ⊤

-- a write took a byte or more, and no more than there were
abbrev pub IsSent : Sent → List ℕ → Type 0
IsSent (sent.Bytes count) bytes = (0 < count) × (count ≤ length bytes)
IsSent sent.Nothing bytes = ⊤
IsSent sent.Failure bytes = ⊤

-- how many connections were accepted by an event, if there is one
abbrev pub accepted_of : Option Event → ℕ
accepted_of (Some event) = accepted_by event
accepted_of None = 0
