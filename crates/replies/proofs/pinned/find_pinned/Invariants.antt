use Rattle.std.proofs.Common.{◌≢◌, ℕ, ◌<◌, get_or}
use Rattle.price_cert.specs.Tables.{Certificate}
use Rattle.replies.proofs.pinned.find_pinned.Given as goal

abbrev pub invariant-loop-index : goal.invariant-loop-index
invariant-loop-index l = (place : ℕ) (d : Certificate) → place < l.index → (get_or l.tables place d).net.key ≢ l.key
