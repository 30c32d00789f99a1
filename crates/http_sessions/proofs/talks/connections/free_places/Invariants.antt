use Rattle.std.proofs.Common.{◌≡◌, ℕ, None, vec_len}
use Rattle.http_ports.specs.Loops.{kept_at}
use Rattle.http_sessions.proofs.talks.connections.free_places.Given as goal

abbrev pub invariant-loop : goal.invariant-loop
invariant-loop g l = (vec_len l.conns ≡ l.counter) × ((k : ℕ) → kept_at l.conns.items k ≡ None)
