use Rattle.std.proofs.Common.{◌+◌, set, sym, ◌∙◌, subst, arith, length-set}
use Rattle.reviews.specs.Routes.{AreRouted, net_of_roads}
use Rattle.reviews.proofs.RouteLemmas.{AreRouted-above}
use Rattle.reviews.proofs.roads.Roads.flag_above.Goals as goal

pub loop-from-preserved : goal.loop-from-preserved
loop-from-preserved c =
    let net = net_of_roads c.args.self.now in
    let flags = c.loop-from.flags in
    let from = c.loop-from.from in
    let next =
    AreRouted-above c.nearer.ensures.fulls net flags from c.requires.roads.numbered c.requires.roads.within c.loop-from.invariant.sized
    (omega arith) (omega arith) c.loop-from.invariant.routed in
    record {
      sized = length-set flags from c.leads.result ∙ c.loop-from.invariant.sized;
      routed = subst (λ b. AreRouted net (set flags from b) 0 (from + 1)) (sym c.leads.ensures) next;
    }
