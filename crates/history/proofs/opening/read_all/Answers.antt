use Rattle.std.proofs.Common.{◌∙◌, map, subst, sym}
use Rattle.std.specs.List.Sorted.{IsPermutation}
use Rattle.std.proofs.lemmas.Result.{IfOk-weaker}
use Rattle.sqlite.specs.Held.{state}
use Rattle.history.proofs.HistoryLemmas.{history_read}
use Rattle.history.specs.Tables.{shown_row}
use Rattle.history.proofs.opening.read_all.Goals as goal

pub returns-in-Ok-clause-holds : goal.returns-in-Ok-clause-holds
returns-in-Ok-clause-holds g c clean =
    let old = state g.S.Store c.args.conn.now in
    let new = state g.S.Store c.list.new.conn in
    let early = c.in-Ok.ensures.leaves.clean clean in
    IfOk-weaker c.read_listed.result _ _
    (λ read listed. history_read old new c.deref.result.now read.first read.kept.items read.sum (c.requires.opens early)
    (sym c.schema.ensures.value ∙ c.is_ours.ensures.0 c.if-not-is_ours.false) (c.in-Ok.ensures.same clean) (subst (IsPermutation (map shown_row (old.now.trees 0))) (sym c.deref.ensures.value) (c.in-Ok.ensures.rows clean)) listed)
    c.read_listed.ensures
