use Rattle.std.proofs.Common.{◌≡◌, vec_len}
use Rattle.http_memory.specs.Seats.{stopped_at}
use Rattle.http_memory.proofs.scripts.script.Script.next_turn.Given as goal

abbrev pub invariant-loop : goal.invariant-loop
invariant-loop l =
    (l.self.seats.items ≡ l.fn.self.seats.items)
    × (vec_len l.self.seats ≡ vec_len l.fn.self.seats)
    × (l.self.terms ≡ l.fn.self.terms)
    × (stopped_at l.self.seconds l.self.step ≡ stopped_at l.fn.self.seconds l.fn.self.step)
