use Rattle.std.proofs.Common.{◌≡◌, ℕ, None, vec_len}
use Rattle.http_ports.specs.Loops.{kept_at}
use Rattle.http_ports.proofs.books.book.empty_places.Given as goal

abbrev pub invariant-loop : goal.invariant-loop
invariant-loop g l = (vec_len l.places ≡ l.counter) × ((k : ℕ) → kept_at l.places.items k ≡ None)
