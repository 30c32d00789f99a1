use Rattle.std.proofs.Common.{◌≡◌, ◌<◌, ℕ, take, vec_len}
use Rattle.http_ports.specs.Traffic.{unused}
use Rattle.http_memory.specs.Seats.{accepted_in, peers_in, peers_of, slots_of}
use Rattle.http_memory.proofs.scripts.script.Script.with_terms.Given as goal

abbrev pub invariant-loop-slot : goal.invariant-loop-slot
invariant-loop-slot l =
    (vec_len l.seats ≡ vec_len l.fn.seats)
    × (peers_of l.seats.items ≡ peers_of l.fn.seats.items)
    × ((k : ℕ) → k < l.slot → slots_of l.seats.items k ≡ unused)
    × (accepted_in (take l.slot l.seats.items) ≡ 0)
    × (peers_in l.seats.items ≡ peers_in l.fn.seats.items)
