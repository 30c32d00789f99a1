use Rattle.std.proofs.Common.{◌≡◌, take}
use Rattle.reviews.specs.Svg.{longest_label}
use Rattle.reviews.proofs.pictures.svg_frame.longest_label.Given as goal

abbrev pub invariant-loop-node : goal.invariant-loop-node
invariant-loop-node l = l.longest ≡ longest_label l.app l.goals (take l.node-index l.nodes)
