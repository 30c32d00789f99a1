use Rattle.std.proofs.Common.{arith, below_more, get_or, map, subst, sym}
use Rattle.server_ports.specs.Passages.{HasAcceptedAll, passage_of}
use Rattle.omaha_server.proofs.RunLemmas.{get_or-mapped}
use Rattle.omaha_server.proofs.running.have_clients_accepted.Goals as goal

pub loop-index-preserved : goal.loop-index-preserved
loop-index-preserved g c = λ k d below.
    let passage = passage_of g.P.Port.terms g.P.Port.slots g.P.Port.accepted in
    let ports = c.args.ports.now in
    let index = c.loop-index.index in
    let one = c.index-ports-index.result in
    let there : HasAcceptedAll (passage (get_or ports index one)) = c.has_accepted_all.ensures c.if-not-has_accepted_all.false in
    let here = subst HasAcceptedAll (sym (get_or-mapped passage ports index one d c.loop-index-test.true)) there in
    below_more (λ i. HasAcceptedAll (get_or (map passage ports) i d)) index (λ i low. c.loop-index.invariant i d low) here k
    (omega (arith, below))
