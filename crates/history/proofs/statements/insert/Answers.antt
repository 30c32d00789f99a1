use Rattle.std.proofs.Common.{◌∙◌, arith, pos, refl}
use Rattle.std.proofs.lemmas.Result.{IfOk-weaker}
use Rattle.kept_records.specs.Keeping.{number_of, record_of}
use Rattle.sqlite.specs.Held.{state}
use Rattle.sqlite.specs.State.{HasCleanDisk}
use Rattle.history.proofs.RowLemmas.{put_row-last, rows_below_next}
use Rattle.history.proofs.StatementLemmas.{Survives-leaves, failed_by, insert_commits, inserted_by}
use Rattle.history.specs.Tables.{stored_row}
use Rattle.history.proofs.statements.insert.Goals as goal

pub returns-clause-made : goal.returns-clause-made
returns-clause-made g c clean =
    let old = state g.S.Store c.args.conn.now in
    let new = state g.S.Store c.execute.new.self in
    let early : HasCleanDisk old = omega (arith, clean, c.execute.ensures.survives.clean) in
    IfOk-weaker c.execute.result _ _ (λ _ done. done.0)
    (inserted_by old new (pos c.args.number) (number_of c.args.kind) c.args.bytes.now c.execute.result (c.requires.ready early)
    (rw (c.number_value-number.ensures, c.number_value-kind.ensures, c.from.ensures, c.number.ensures) at (c.execute.ensures.runs clean)))

pub returns-clause-added : goal.returns-clause-added
returns-clause-added g c clean =
    let old = state g.S.Store c.args.conn.now in
    let new = state g.S.Store c.execute.new.self in
    let early : HasCleanDisk old = omega (arith, clean, c.execute.ensures.survives.clean) in
    IfOk-weaker c.execute.result _ _
    (λ _ done. done.1
    ∙ put_row-last (old.now.trees 0) (stored_row c.args.number (record_of c.args.kind c.args.bytes.now)) c.args.number
    (rows_below_next old.now.trees c.args.number (c.requires.next early)) refl)
    (inserted_by old new (pos c.args.number) (number_of c.args.kind) c.args.bytes.now c.execute.result (c.requires.ready early)
    (rw (c.number_value-number.ensures, c.number_value-kind.ensures, c.from.ensures, c.number.ensures) at (c.execute.ensures.runs clean)))

pub returns-clause-failed : goal.returns-clause-failed
returns-clause-failed g c clean =
    failed_by _ _ (state g.S.Store c.args.conn.now) (state g.S.Store c.execute.new.self) c.execute.result (c.execute.ensures.runs clean)

pub returns-clause-leaves : goal.returns-clause-leaves
returns-clause-leaves g c =
    let old = state g.S.Store c.args.conn.now in
    Survives-leaves old (state g.S.Store c.execute.new.self) _ _
    (λ early db made.
    let put = insert_commits old (pos c.args.number) (number_of c.args.kind) c.args.bytes.now db (c.requires.ready early) made in (
      put.0,
      put.1 ∙ put_row-last (old.now.trees 0) (stored_row c.args.number (record_of c.args.kind c.args.bytes.now)) c.args.number
          (rows_below_next old.now.trees c.args.number (c.requires.next early)) refl,
    ))
    (rw (c.number_value-number.ensures, c.number_value-kind.ensures, c.from.ensures, c.number.ensures) at c.execute.ensures.survives)
