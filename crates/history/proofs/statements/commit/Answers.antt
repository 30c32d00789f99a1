use Rattle.sqlite.specs.Held.{state}
use Rattle.history.proofs.StatementLemmas.{Survives-leaves, commit_commits, committed_by}
use Rattle.history.proofs.statements.commit.Goals as goal

pub returns-clause-done : goal.returns-clause-done
returns-clause-done g c clean =
    committed_by (state g.S.Store c.args.conn.now) (state g.S.Store c.execute.new.self) c.execute.result (c.execute.ensures.runs clean)

pub returns-clause-leaves : goal.returns-clause-leaves
returns-clause-leaves g c =
    let old = state g.S.Store c.args.conn.now in
    Survives-leaves old (state g.S.Store c.execute.new.self) _ _ (λ early db made. commit_commits old db made) c.execute.ensures.survives
