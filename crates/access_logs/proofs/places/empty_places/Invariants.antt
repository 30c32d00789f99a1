use Rattle.std.proofs.Common.{◌≡◌, ℕ, None, vec_len}
use Rattle.http_ports.specs.Loops.{kept_at}
use Rattle.access_logs.proofs.places.empty_places.Given as goal

abbrev pub invariant-loop : goal.invariant-loop
invariant-loop l = (vec_len l.places ≡ l.counter) × ((k : ℕ) → kept_at l.places.items k ≡ None)
