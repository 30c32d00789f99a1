use Rattle.std.proofs.Common.{ℕ, ◌<◌}
use Rattle.par_tables.specs.Places.{HasOtherKeyAt}
use Rattle.par_tables.proofs.listing.find_near.Given as goal

abbrev pub invariant-loop-index : goal.invariant-loop-index
invariant-loop-index l = (place : ℕ) → place < l.index → HasOtherKeyAt l.key l.tables place
