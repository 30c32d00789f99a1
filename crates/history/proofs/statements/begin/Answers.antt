use Rattle.sqlite.specs.Held.{state}
use Rattle.history.proofs.StatementLemmas.{Survives-leaves, begin_commits, begun_by}
use Rattle.history.proofs.statements.begin.Goals as goal

pub returns-clause-begun : goal.returns-clause-begun
returns-clause-begun g c clean =
    begun_by (state g.S.Store c.args.conn.now) (state g.S.Store c.execute.new.self) c.execute.result (c.execute.ensures.runs clean)

pub returns-clause-leaves : goal.returns-clause-leaves
returns-clause-leaves g c =
    let old = state g.S.Store c.args.conn.now in
    Survives-leaves old (state g.S.Store c.execute.new.self) _ _ (λ early db made. begin_commits old db made) c.execute.ensures.survives
