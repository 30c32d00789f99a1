use Rattle.std.proofs.Common.{◌+◌, ◌-◌, List, take, drop, sym, ap, ◌∙◌}
use Rattle.std.specs.List.{list_any}
use Rattle.payload_graph.specs.Net.{to_stone}
use Rattle.payload_graph.specs.declared.door.Door.{Door}
use Rattle.reviews.specs.Routes.{leads_to_flag, net_of_roads}
use Rattle.reviews.proofs.RouteLemmas.{window-slice}
use Rattle.reviews.proofs.roads.Roads.leads.Goals as goal

pub returns-then-from-self : goal.returns-then-from-self
returns-then-from-self c =
    let net = net_of_roads c.args.self.now in
    let below = c.if-from-self.true in
    c.leads_up.ensures
    ∙ ap
    (λ (doors : List Door).
    list_any (leads_to_flag c.args.flags.now c.args.from) (to_stone (take (net.target + 1 - (c.args.from + 1)) (drop (c.args.from + 1) doors))))
    c.as_slice-doors.ensures.value
    ∙ sym (ap (list_any (leads_to_flag c.args.flags.now c.args.from)) (window-slice net c.args.from below))
