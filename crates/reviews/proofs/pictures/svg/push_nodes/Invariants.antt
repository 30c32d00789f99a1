use Rattle.std.proofs.Common.{◌≡◌, ◌++◌, string_bytes, take}
use Rattle.reviews.specs.Svg.{all_nodes_svg}
use Rattle.reviews.proofs.pictures.svg.push_nodes.Given as goal

abbrev pub invariant-loop-node : goal.invariant-loop-node
invariant-loop-node l = string_bytes l.text ≡ string_bytes l.initial.text ++ all_nodes_svg l.app l.goals (take l.node-index l.nodes)
