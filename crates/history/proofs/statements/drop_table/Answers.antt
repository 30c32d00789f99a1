use Rattle.std.proofs.Common.{arith}
use Rattle.sqlite.specs.Held.{state}
use Rattle.sqlite.specs.State.{HasCleanDisk}
use Rattle.history.proofs.StatementLemmas.{Survives-leaves, drop_commits, dropped_by}
use Rattle.history.proofs.statements.drop_table.Goals as goal

pub returns-clause-dropped : goal.returns-clause-dropped
returns-clause-dropped g c clean =
    let old = state g.S.Store c.args.conn.now in
    let early : HasCleanDisk old = omega (arith, clean, c.execute.ensures.survives.clean) in
    dropped_by old (state g.S.Store c.execute.new.self) c.execute.result (c.requires.ready early) (c.execute.ensures.runs clean)

pub returns-clause-leaves : goal.returns-clause-leaves
returns-clause-leaves g c =
    let old = state g.S.Store c.args.conn.now in
    Survives-leaves old (state g.S.Store c.execute.new.self) _ _
    (λ early db made. drop_commits old db (c.requires.ready early) made) c.execute.ensures.survives
