use Rattle.std.proofs.Common.{◌≡◌, ◌++◌, ◌-◌, length}
use Rattle.reviews.specs.Scenes.{chain_of, chain_within}
use Rattle.reviews.proofs.pictures.arrows.chain_of.Given as goal

abbrev pub invariant-loop : goal.invariant-loop
invariant-loop l = chain_of l.app l.review l.from ≡ l.arrows.items ++ chain_within l.app l.review (length l.review.outcomes - l.counter) l.at
