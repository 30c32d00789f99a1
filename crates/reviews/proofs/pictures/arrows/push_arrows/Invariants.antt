use Rattle.std.proofs.Common.{◌≡◌, fold, take}
use Rattle.reviews.specs.Scenes.{with_arrow}
use Rattle.reviews.proofs.pictures.arrows.push_arrows.Given as goal

abbrev pub invariant-loop-arrow : goal.invariant-loop-arrow
invariant-loop-arrow l = l.arrows.items ≡ fold with_arrow l.initial.arrows.items (take l.arrow-index l.more)
