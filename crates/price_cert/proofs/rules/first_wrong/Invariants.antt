use Rattle.std.proofs.Common.{◌≡◌, ℕ, ◌<◌, ◌≤◌, length, None}
use Rattle.price_cert.specs.Rules.{broken_at}
use Rattle.price_cert.proofs.rules.first_wrong.Given as goal

abbrev pub invariant-loop-from : goal.invariant-loop-from
invariant-loop-from l = (k : ℕ) → l.from ≤ k → k < length l.rows → broken_at l.graph l.rows k ≡ None
