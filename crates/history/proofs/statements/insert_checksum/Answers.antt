use Rattle.std.proofs.Common.{arith}
use Rattle.std.proofs.lemmas.Result.{IfOk-weaker}
use Rattle.sqlite.specs.Held.{state}
use Rattle.sqlite.specs.State.{HasCleanDisk}
use Rattle.history.proofs.StatementLemmas.{Survives-leaves, failed_by, insert_commits, inserted_by}
use Rattle.history.specs.Tables.{checksum_key}
use Rattle.history.proofs.statements.insert_checksum.Goals as goal

pub returns-clause-made : goal.returns-clause-made
returns-clause-made g c clean =
    let old = state g.S.Store c.args.conn.now in
    let new = state g.S.Store c.execute.new.self in
    let early : HasCleanDisk old = omega (arith, clean, c.execute.ensures.survives.clean) in
    IfOk-weaker c.execute.result _ _ (λ _ done. done.0)
    (inserted_by old new (checksum_key c.args.number) 0 c.args.sum.now c.execute.result (c.requires.ready early)
    (rw (c.key_value-key.ensures, c.number_value-kind.ensures) at (c.execute.ensures.runs clean)))

pub returns-clause-put : goal.returns-clause-put
returns-clause-put g c clean =
    let old = state g.S.Store c.args.conn.now in
    let new = state g.S.Store c.execute.new.self in
    let early : HasCleanDisk old = omega (arith, clean, c.execute.ensures.survives.clean) in
    IfOk-weaker c.execute.result _ _ (λ _ done. done.1)
    (inserted_by old new (checksum_key c.args.number) 0 c.args.sum.now c.execute.result (c.requires.ready early)
    (rw (c.key_value-key.ensures, c.number_value-kind.ensures) at (c.execute.ensures.runs clean)))

pub returns-clause-failed : goal.returns-clause-failed
returns-clause-failed g c clean =
    failed_by _ _ (state g.S.Store c.args.conn.now) (state g.S.Store c.execute.new.self) c.execute.result (c.execute.ensures.runs clean)

pub returns-clause-leaves : goal.returns-clause-leaves
returns-clause-leaves g c =
    let old = state g.S.Store c.args.conn.now in
    Survives-leaves old (state g.S.Store c.execute.new.self) _ _
    (λ early db made. insert_commits old (checksum_key c.args.number) 0 c.args.sum.now db (c.requires.ready early) made)
    (rw (c.key_value-key.ensures, c.number_value-kind.ensures) at c.execute.ensures.survives)
