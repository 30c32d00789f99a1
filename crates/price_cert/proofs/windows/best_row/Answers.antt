use Rattle.std.proofs.Common.{◌≡◌, true, sym, subst}
use Rattle.std.specs.List.{All}
use Rattle.std.proofs.lemmas.List.Elements.{All-filter}
use Rattle.catalogue.specs.Forms.{is_size}
use Rattle.payload_graph.specs.Net.{fulls, leaves, window}
use Rattle.payload_graph.specs.declared.edge.Edge.{Edge}
use Rattle.payload_graph.specs.declared.edge.Kind.TheVariants as kind
use Rattle.price_cert.proofs.StepLemmas.{IsBest-differ}
use Rattle.price_cert.proofs.windows.best_row.Goals as goal

pub improved-row-requires-clause-sized : goal.improved-row-requires-clause-sized
improved-row-requires-clause-sized c =
    let net = c.args.graph.now in
    let all = All-filter (leaves c.args.from) (λ (edge : Edge). is_size edge.bytes ≡ true) net.differs c.doors-bounded.ensures.bounded.differs_sized in
    subst (All (λ (edge : Edge). is_size edge.bytes ≡ true)) (sym c.differs_from-differs.ensures) all
    c.loop-edge.edge-index (record { from = 0; to = 0; kind = kind.Full; bytes = 0 }) c.loop-edge-test.true

pub loop-edge-preserved : goal.loop-edge-preserved
loop-edge-preserved c =
    IsBest-differ c.args.rows.now (fulls c.args.from (window c.args.graph.now c.args.from)) c.differs_from-differs.result.now c.loop-edge.edge-index (record { from = 0; to = 0; kind = kind.Full; bytes = 0 }) c.loop-edge.row c.improved-row.result c.loop-edge-test.true c.improved-row.ensures c.loop-edge.invariant
