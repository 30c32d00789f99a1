use Rattle.std.proofs.Common.{◌≡◌, true, sym, subst}
use Rattle.std.specs.List.{All}
use Rattle.catalogue.specs.Forms.{is_size}
use Rattle.payload_graph.specs.declared.edge.Edge.{Edge}
use Rattle.payload_graph.specs.declared.edge.Kind.TheVariants as kind
use Rattle.price_cert.proofs.OpeningLemmas.{All-sized-openings}
use Rattle.price_cert.proofs.StepLemmas.{IsBest-differ}
use Rattle.price_cert.proofs.windows.best_opened.Goals as goal

pub improved-row-requires-clause-sized : goal.improved-row-requires-clause-sized
improved-row-requires-clause-sized c =
    subst (All (λ (edge : Edge). is_size edge.bytes ≡ true)) (sym c.openings-openings.ensures)
    (All-sized-openings c.args.graph.now.doors c.args.index c.doors-bounded.ensures.bounded.doors_sized)
    c.loop-edge.edge-index (record { from = 0; to = 0; kind = kind.Full; bytes = 0 }) c.loop-edge-test.true

pub loop-edge-preserved : goal.loop-edge-preserved
loop-edge-preserved c =
    λ edges best.
    IsBest-differ c.args.rows.now edges c.openings-openings.result.now c.loop-edge.edge-index (record { from = 0; to = 0; kind = kind.Full; bytes = 0 }) c.loop-edge.row c.improved-row.result c.loop-edge-test.true c.improved-row.ensures (c.loop-edge.invariant edges best)
