use Rattle.std.proofs.Common.{arith}
use Rattle.std.proofs.lemmas.Result.{IfOk-weaker}
use Rattle.sqlite.specs.Held.{state}
use Rattle.sqlite.specs.State.{HasCleanDisk}
use Rattle.history.proofs.StatementLemmas.{Survives-leaves, create_commits, created_by}
use Rattle.history.proofs.statements.create_table.Goals as goal

pub returns-clause-made : goal.returns-clause-made
returns-clause-made g c clean =
    let old = state g.S.Store c.args.conn.now in
    let new = state g.S.Store c.execute.new.self in
    let early : HasCleanDisk old = omega (arith, clean, c.execute.ensures.survives.clean) in
    IfOk-weaker c.execute.result _ _ (λ _ done. done.0)
    (created_by old new c.execute.result (c.requires.bare early) (c.execute.ensures.runs clean))

pub returns-clause-empty : goal.returns-clause-empty
returns-clause-empty g c clean =
    let old = state g.S.Store c.args.conn.now in
    let new = state g.S.Store c.execute.new.self in
    let early : HasCleanDisk old = omega (arith, clean, c.execute.ensures.survives.clean) in
    IfOk-weaker c.execute.result _ _ (λ _ done. done.1)
    (created_by old new c.execute.result (c.requires.bare early) (c.execute.ensures.runs clean))

pub returns-clause-leaves : goal.returns-clause-leaves
returns-clause-leaves g c =
    let old = state g.S.Store c.args.conn.now in
    Survives-leaves old (state g.S.Store c.execute.new.self) _ _
    (λ early db made. create_commits old db (c.requires.bare early) made) c.execute.ensures.survives
