use Rattle.reviews.specs.Largest.{IsLargestBefore}
use Rattle.reviews.proofs.largest.find_largest.Given as goal

abbrev pub invariant-loop-index : goal.invariant-loop-index
invariant-loop-index l = IsLargestBefore l.values l.index l.best
