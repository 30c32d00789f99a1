use Rattle.std.proofs.Common.{◌≡◌, take}
use Rattle.reviews.specs.Svg.{longest_jump}
use Rattle.reviews.proofs.pictures.svg_frame.longest_jump.Given as goal

abbrev pub invariant-loop-arrow : goal.invariant-loop-arrow
invariant-loop-arrow l = l.longest ≡ longest_jump (take l.arrow-index l.arrows)
