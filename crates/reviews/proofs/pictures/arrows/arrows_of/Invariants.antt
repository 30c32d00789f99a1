use Rattle.std.proofs.Common.{◌≡◌, [], fold, take}
use Rattle.reviews.specs.Scenes.{with_arrows}
use Rattle.reviews.proofs.pictures.arrows.arrows_of.Given as goal

abbrev pub invariant-loop-review : goal.invariant-loop-review
invariant-loop-review l = l.arrows.items ≡ fold (with_arrows l.app l.view) [] (take l.review-index l.reviews)
