use Rattle.std.proofs.Common.{◌≡◌, ◌+◌, ◌-◌, set, sym, ◌∙◌, subst, arith, length-set}
use Rattle.reviews.specs.Routes.{AreRouted, net_of_roads}
use Rattle.reviews.proofs.RouteLemmas.{AreRouted-below}
use Rattle.reviews.proofs.roads.Roads.flag_below.Goals as goal

pub loop-from-preserved : goal.loop-from-preserved
loop-from-preserved c =
    let net = net_of_roads c.args.self.now in
    let flags = c.loop-from.flags in
    let from = c.loop-from.from - 1 in
    let step : c.loop-from.from ≡ from + 1 = omega arith in
    let routed = subst (λ n. AreRouted net flags n (net.target + 1)) step c.loop-from.invariant.routed in
    let next =
    AreRouted-below c.nearer.ensures.fulls net flags from c.requires.roads.numbered c.requires.roads.within c.loop-from.invariant.sized
    (omega arith) routed in
    record {
      sized = length-set flags from c.leads.result ∙ c.loop-from.invariant.sized;
      routed = subst (λ b. AreRouted net (set flags from b) from (net.target + 1)) (sym c.leads.ensures) next;
    }
