use Rattle.std.proofs.Common.{◌≡◌, Some}
use Rattle.payload_graph.specs.Net.{net_among}
use Rattle.price_cert.specs.Laws.{IsGraph}
use Rattle.par_tables.proofs.MakingLemmas.{IsTableOf-solved}
use Rattle.par_tables.proofs.making.table_by.Goals as goal

pub returns : goal.returns
returns c =
    let apps = c.args.catalogue.now in
    let key = c.args.key.now in
    let net = c.in-Some.graph in
    let there : net_among apps key ≡ Some net = cc (c.in_ok-graph.ensures, c.in-Some.is) in
    let graph : IsGraph net = record { within = c.target-within.ensures.within; numbered = c.doors-numbered.ensures.numbered; nearing = c.differs-nearing.ensures.nearing; bounded = c.doors-numbered.ensures.bounded } in
    IsTableOf-solved apps key net c.solve.result there graph c.solve.ensures.graph c.solve.ensures.certified
