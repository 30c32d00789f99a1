use Rattle.std.proofs.Common.{[], arith, refl, subst, sym, true}
use Rattle.kept_records.specs.Checksums.{no_checksum}
use Rattle.sqlite.specs.Held.{state}
use Rattle.history.proofs.HistoryLemmas.{CrashLeaves-weaker, history_keeps, history_of}
use Rattle.history.proofs.RowLemmas.{Holds-nil}
use Rattle.history.specs.Holdings.{IsHistory, Keeps}
use Rattle.history.specs.Logs.{IsLog}
use Rattle.history.proofs.history.History.create.Goals as goal

pub invariant_of-result : goal.invariant_of-result
invariant_of-result g c =
    subst (λ marks. IsLog g.S.Store c.create_table.new.conn 1 0 0 no_checksum marks true) (sym c.new.ensures)
    (record {
      numbered = (omega arith, omega arith);
      summed = refl;
      counted = refl;
      bounded = omega arith;
      sized = refl;
      holds = λ live clean. history_of (state g.S.Store c.args.conn) (state g.S.Store c.create_table.new.conn) 1 []
          (c.requires.bare (c.in-Ok.ensures.leaves.clean clean)).autocommit (c.in-Ok.ensures.made clean)
          (Holds-nil (state g.S.Store c.create_table.new.conn).now.trees 1 (c.in-Ok.ensures.empty clean));
    })

pub returns-in-Ok-clause-keeps : goal.returns-in-Ok-clause-keeps
returns-in-Ok-clause-keeps g c clean =
    let new = state g.S.Store c.create_table.new.conn in
    let is : IsHistory new 1 [] = history_of (state g.S.Store c.args.conn) new 1 []
    (c.requires.bare (c.in-Ok.ensures.leaves.clean clean)).autocommit (c.in-Ok.ensures.made clean)
    (Holds-nil new.now.trees 1 (c.in-Ok.ensures.empty clean)) in
    subst (Keeps new 1) (sym c.new.ensures)
    (history_keeps new 1 [] is (λ db may. g.met.S.Store.settled c.create_table.new.conn.store db is.is_open may))

pub returns-in-Err-clause-err : goal.returns-in-Err-clause-err
returns-in-Err-clause-err g c =
    CrashLeaves-weaker (state g.S.Store c.args.conn) (state g.S.Store c.create_table.new.conn) _ _
    (λ clean db made. Holds-nil db 1 made.1) c.in-Err.ensures.leaves
