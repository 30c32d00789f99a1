-- The slots of a script, each with its peers; this project's profile.
use Rattle.std.specs.Prelude.{◌≡◌, ◌+◌, ◌%◌, ◌^◌, ⊤, ℕ, zero, suc, Bool, true, false, All, List, map, reverse, sum_by, take, slice_get, Option, None, Some, option_map, IfSome, if◌then◌else◌, vec_len}
use Rattle.std.specs.Option.{option_map_or}
use Rattle.http_ports.specs.Ports.{IsWaiting, expiring}
use Rattle.http_ports.specs.Traffic.{IsOpen, Slot, Traffic, marked, no_traffic, unused, with_open}
use Rattle.http_ports.specs.declared.event.Event.{Event}
use Rattle.http_ports.specs.declared.event.Event.TheVariants as event
use Rattle.http_ports.specs.declared.last.Last.TheVariants.{Reported}
use Rattle.http_memory.specs.Peers.{traffic_of}
use Rattle.http_memory.specs.declared.scripts.peer.Peer.{Peer}
use Rattle.http_memory.specs.declared.scripts.seat.Seat.{Seat}

-- the connections of the first so many peers, the latest first
abbrev pub ended_among : List Peer → ℕ → List Traffic
ended_among peers ended = reverse (map traffic_of (take ended peers))

-- the time at which the clock of a script has stopped: its first timestamp, if no time passes
abbrev pub stopped_at : ℕ → ℕ → Option ℕ
stopped_at seconds zero = Some (seconds % 2 ^ 63)
stopped_at seconds (suc step) = None

-- the peers of each seat
abbrev pub peers_of : List Seat → List (List Peer)
peers_of seats = map (λ (seat : Seat). seat.peers.items) seats

-- rule: Slots of a script
-- what passed at a seat: the connections of its peers, in their order
abbrev pub slot_of : Seat → Slot
slot_of seat = record {
  ended = ended_among seat.peers.items seat.ended;
  current = if seat.is_open then option_map traffic_of (slice_get seat.peers.items seat.ended) else None;
}

-- what passed at each slot
abbrev pub slots_of : List Seat → ℕ → Slot
slots_of seats at = option_map_or slot_of (slice_get seats at) unused

-- how many peers of a seat have connected
abbrev pub connected_at : Seat → ℕ
connected_at seat = seat.ended + (if seat.is_open then 1 else 0)

-- how many connections were accepted at all seats
abbrev pub accepted_in : List Seat → ℕ
accepted_in seats = sum_by connected_at seats

-- how many peers there are at all seats
abbrev pub peers_in : List Seat → ℕ
peers_in seats = sum_by (λ (seat : Seat). vec_len seat.peers) seats

-- a seat has as many peers as before, of which so many more have connected
pub record HasConnected (more : ℕ) (old new : Seat) : Type 0 where
  pub connected : connected_at new ≡ connected_at old + more
  pub peers : vec_len new.peers ≡ vec_len old.peers

-- the connection of a seat changes so
abbrev pub ChangesSeat : (Traffic → Traffic) → Seat → Seat → Type 0
ChangesSeat change old new =
    (traffic : Traffic) → (slot_of old).current ≡ Some traffic → slot_of new ≡ with_open (slot_of old) (change traffic)

-- each peer of the seat has connected and ended
abbrev pub IsDone : Seat → Type 0
IsDone seat = (seat.is_open ≡ false) × (seat.ended ≡ vec_len seat.peers)

-- what is reported of the seat of a slot
abbrev pub ReportsSeat : ℕ → Event → Seat → Seat → Type 0
ReportsSeat at (event.Accepted slot) old new =
    (slot ≡ at) × ((slot_of old).current ≡ None) × (slot_of new ≡ with_open (slot_of old) no_traffic)
ReportsSeat at (event.Ready slot) old new =
    (slot ≡ at) × IsOpen (slot_of old) × ChangesSeat (marked Reported) old new
ReportsSeat at (event.Expired slot) old new =
    (slot ≡ at) × ((traffic : Traffic) × ((slot_of old).current ≡ Some traffic) × IsWaiting traffic.last)
    × ChangesSeat expiring old new
ReportsSeat at event.Done old new = ⊥

-- nothing is reported of a seat: it waits for what may still come, or it is done
abbrev pub IsQuiet : Bool → Seat → Type 0
IsQuiet true seat = ⊤
IsQuiet false seat = IsDone seat

-- the same of the seat of a slot
abbrev pub IsQuietAt : Bool → List Seat → ℕ → Type 0
IsQuietAt patient seats at = IfSome (slice_get seats at) (IsQuiet patient)

-- the event is of a slot
abbrev pub IsOfSlot : Event → Type 0
IsOfSlot (event.Accepted at) = ⊤
IsOfSlot (event.Ready at) = ⊤
IsOfSlot (event.Expired at) = ⊤
IsOfSlot event.Done = ⊥

-- rule: End of a script
-- each peer has connected and ended
abbrev pub AreDone : List Seat → Type 0
AreDone seats = All IsDone seats
