use Rattle.std.proofs.Common.{◌≡◌, map, take}
use Rattle.std.specs.Arc.{arc_value}
use Rattle.editions.proofs.edition.followed.Given as goal

abbrev pub invariant-loop-earlier : goal.invariant-loop-earlier
invariant-loop-earlier l = map arc_value l.next.items ≡ map arc_value (take l.earlier-index l.batches)
