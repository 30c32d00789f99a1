use Rattle.std.proofs.Common.{◌≡◌, ◌≤◌, ◌<◌, ℕ, vec_len}
use Rattle.http_memory.specs.Seats.{IsQuietAt, stopped_at}
use Rattle.http_memory.proofs.scripts.script.Script.report_of.Given as goal

abbrev pub invariant-loop-slot : goal.invariant-loop-slot
invariant-loop-slot l =
    (l.self.seats.items ≡ l.fn.self.seats.items)
    × (vec_len l.self.seats ≡ vec_len l.fn.self.seats)
    × (l.self.terms ≡ l.fn.self.terms)
    × (stopped_at l.self.seconds l.self.step ≡ stopped_at l.fn.self.seconds l.fn.self.step)
    × ((k : ℕ) → l.from ≤ k → k < l.slot → IsQuietAt l.patient l.fn.self.seats.items k)
