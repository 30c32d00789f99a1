use Rattle.std.proofs.Common.{◌≡◌, ◌+◌, length}
use Rattle.reviews.specs.Routes.{AreRouted, net_of_roads}
use Rattle.reviews.proofs.roads.Roads.flag_below.Given as goal

abbrev pub invariant-loop-from : goal.invariant-loop-from
invariant-loop-from l = record {
  sized : length l.flags ≡ length l.self.doors.items;
  routed : AreRouted (net_of_roads l.self) l.flags l.from (l.self.target + 1);
}
