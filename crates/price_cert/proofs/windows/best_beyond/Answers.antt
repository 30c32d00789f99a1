use Rattle.std.proofs.Common.{◌+◌, List, get_or, sym, ap, ◌∙◌}
use Rattle.payload_graph.specs.Soundness.{no_door}
use Rattle.payload_graph.specs.declared.door.Door.{Door}
use Rattle.price_cert.proofs.StepLemmas.{IsBest-beyond, IsBest-still}
use Rattle.price_cert.proofs.windows.best_beyond.Goals as goal

pub returns-then-is_still_open : goal.returns-then-is_still_open
returns-then-is_still_open c =
    let plain = ap (λ (ds : List Door). (get_or ds (c.args.from + 1) no_door).stone) (sym c.doors-doors.ensures.doors) ∙ c.if-doors-from.false in
    IsBest-beyond c.args.graph.now c.args.rows.now c.args.from c.args.best plain
    (IsBest-still c.args.graph.now c.args.rows.now c.args.from c.doors-doors.result.now c.args.best c.windows.ensures.doors c.doors-doors.ensures.numbered c.doors-doors.ensures.doors (sym c.is_still_open.ensures ∙ c.if-is_still_open.true) c.requires.best)
