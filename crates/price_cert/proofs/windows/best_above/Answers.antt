use Rattle.std.proofs.Common.{sym, ◌∙◌}
use Rattle.price_cert.proofs.OpeningLemmas.{IsBest-above}
use Rattle.price_cert.proofs.windows.best_above.Goals as goal

pub returns : goal.returns
returns c =
    IsBest-above c.args.graph.now c.args.rows.now c.args.from c.doors-doors.result.now c.args.best c.taken-next.result c.best_opened.result
    c.doors-doors.ensures.numbered c.requires.there c.doors-doors.ensures.doors (sym c.rolls_back.ensures ∙ c.if-not-rolls_back.false) c.taken-next.ensures c.best_opened.ensures c.requires.best
