use Rattle.std.proofs.Common.{◌≡◌, ◌++◌, string_bytes, take}
use Rattle.reviews.specs.Svg.{all_arrows_svg}
use Rattle.reviews.proofs.pictures.svg.push_arrows.Given as goal

abbrev pub invariant-loop-arrow : goal.invariant-loop-arrow
invariant-loop-arrow l = string_bytes l.text ≡ string_bytes l.initial.text ++ all_arrows_svg l.app (take l.arrow-index l.arrows)
