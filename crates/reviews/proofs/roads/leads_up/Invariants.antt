use Rattle.std.proofs.Common.{◌≡◌, drop}
use Rattle.std.specs.List.{list_any}
use Rattle.payload_graph.specs.Net.{to_stone}
use Rattle.reviews.specs.Routes.{leads_to_flag}
use Rattle.reviews.proofs.roads.leads_up.Given as goal

abbrev pub invariant-loop-door : goal.invariant-loop-door
invariant-loop-door l =
    list_any (leads_to_flag l.flags l.from) (to_stone l.doors) ≡ list_any (leads_to_flag l.flags l.from) (to_stone (drop l.door-index l.doors))
