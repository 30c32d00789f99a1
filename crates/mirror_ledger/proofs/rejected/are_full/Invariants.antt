-- The mirrors so far have no room.
use Rattle.std.proofs.Common.{◌+◌, ◌<◌, ℕ, slice_index}
use Rattle.mirror_ledger.specs.Named.{budget_at}
use Rattle.mirror_ledger.proofs.rejected.are_full.Given as goal

abbrev pub invariant-loop-index : goal.invariant-loop-index
invariant-loop-index l = (index : ℕ) → index < l.index → budget_at l.mirrors index < slice_index l.totals index + l.bytes
