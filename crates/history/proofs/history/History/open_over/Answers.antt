use Rattle.std.proofs.Common.{subst, sym, ◌∙◌}
use Rattle.sqlite.specs.Held.{state}
use Rattle.history.proofs.HistoryLemmas.{history_keeps}
use Rattle.history.specs.Holdings.{Keeps}
use Rattle.history.proofs.history.History.open_over.Goals as goal

pub returns-clause-keeps : goal.returns-clause-keeps
returns-clause-keeps g c clean =
    let new = state g.S.Store c.read_all.new.conn in
    let is = c.in-Ok.ensures.holds clean in
    subst (Keeps new c.in-Ok.read.first) (sym (c.marks_of.ensures ∙ c.deref-2.ensures.value))
    (history_keeps new c.in-Ok.read.first _ is (λ db may. g.met.S.Store.settled c.read_all.new.conn.store db is.is_open may))
