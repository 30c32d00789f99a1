use Rattle.std.proofs.Common.{sym, ◌∙◌}
use Rattle.sqlite.proofs.Callers.{never_commits}
use Rattle.sqlite.specs.Held.{state}
use Rattle.history.proofs.StatementLemmas.{Survives-leaves, row_unchanged, when_ok}
use Rattle.history.proofs.Texts.{probe_plain, probe_text}
use Rattle.history.proofs.statements.probe.Goals as goal

pub returns-clause-same : goal.returns-clause-same
returns-clause-same g c clean found =
    let old = state g.S.Store c.args.conn.now in
    when_ok c.query_row.result _
    (row_unchanged probe_text _ old (state g.S.Store c.query_row.new.self) c.query_row.result (probe_plain old.now.schema) (c.query_row.ensures.row clean))
    (sym c.is_ok.ensures.value ∙ found)

pub returns-clause-leaves : goal.returns-clause-leaves
returns-clause-leaves g c =
    let old = state g.S.Store c.args.conn.now in
    Survives-leaves old (state g.S.Store c.query_row.new.self) _ _
    (λ early db made. never_commits probe_text _ old db (probe_plain old.now.schema) made) c.query_row.ensures.survives
