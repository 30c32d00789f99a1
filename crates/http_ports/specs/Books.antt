-- The traffic of a port, by what has happened there; this project's profile.
use Rattle.std.specs.Prelude.{◌+◌, ◌==◌, ℕ, Bool, true, false, List, [], ◌∷◌, ◌++◌, if◌then◌else◌, Option, None, option_map, option_to_list}
use Rattle.http_ports.specs.Ports.{expiring, receiving, sending}
use Rattle.http_ports.specs.Traffic.{Slot, Traffic, marked, no_traffic, timing, unused, with_open}
use Rattle.http_ports.specs.declared.last.Last.{Last}
use Rattle.http_ports.specs.declared.last.Last.TheVariants as last
use Rattle.http_ports.specs.declared.books.moves.Change.{Change}
use Rattle.http_ports.specs.declared.books.moves.Change.TheVariants as change
use Rattle.http_ports.specs.declared.books.moves.Move.{Move}
use Rattle.http_ports.specs.declared.books.moves.Move.TheVariants as move
use Rattle.http_ports.specs.declared.books.place.Place.{Place}

-- what a change makes of a connection
abbrev pub changed_by : Change → Traffic → Traffic
changed_by (change.Marked last) = marked last
changed_by change.Expired = expiring
changed_by (change.Timed seconds waiting) = timing seconds waiting
changed_by (change.Received bytes) = receiving bytes
changed_by (change.Sent bytes) = sending bytes

-- the slot of a move
abbrev pub slot_of : Move → ℕ
slot_of (move.Accepted at) = at
slot_of (move.Changed at change) = at
slot_of (move.Closed at) = at

-- what a move makes of its slot
abbrev pub moved : Move → Slot → Slot
moved (move.Accepted at) slot = with_open slot no_traffic
moved (move.Changed at change) slot =
    record { ended = slot.ended; current = option_map (changed_by change) slot.current }
moved (move.Closed at) slot = record { ended = option_to_list slot.current ++ slot.ended; current = None }

-- the slots after a move
abbrev pub after_move : (ℕ → Slot) → Move → ℕ → Slot
after_move slots move at = if at == slot_of move then moved move (slots at) else slots at

-- the slots after moves
abbrev pub after_moves : (ℕ → Slot) → List Move → ℕ → Slot
after_moves slots [] = slots
after_moves slots (move ∷ moves) = after_moves (after_move slots move) moves

-- rule: Traffic of a book
-- the slots after all moves since the first one
abbrev pub slots_after : List Move → ℕ → Slot
slots_after moves = after_moves (λ at. unused) moves

-- how many connections were accepted by a move, and by some
abbrev pub accepted_one : Move → ℕ
accepted_one (move.Accepted at) = 1
accepted_one (move.Changed at change) = 0
accepted_one (move.Closed at) = 0

abbrev pub accepted_in : List Move → ℕ
accepted_in [] = 0
accepted_in (move ∷ moves) = accepted_one move + accepted_in moves

-- a connection waits for its peer
abbrev pub is_waiting : Last → Bool
is_waiting last.WaitsToRead = true
is_waiting last.WaitsToWrite = true
is_waiting last.Reported = false
is_waiting last.Passed = false
is_waiting last.Yields = false
is_waiting last.InputEnded = false
is_waiting last.ReadFailed = false
is_waiting last.WriteFailed = false

-- whether a slot has a connection, and whether that waits: by what is kept of it, and by what has passed
abbrev pub kept_waits : {S : Type 0} → Option (Place S) → Option Bool
kept_waits {S} place = option_map (λ (p : Place S). p.waits) place

abbrev pub slot_waits : Slot → Option Bool
slot_waits slot = option_map (λ (traffic : Traffic). is_waiting traffic.last) slot.current
