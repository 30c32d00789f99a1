use Rattle.std.proofs.Common.{subst, sym, arith}
use Rattle.std.proofs.lemmas.Grind.{common_steps}
use Rattle.etcd_records.specs.Openings.{OpenFails}
use Rattle.etcd_records.proofs.OpenLemmas.{fails_by, fails_full, none_after}
use Rattle.etcd_records.proofs.handle.EtcdRecords.read_all.Goals as goal

pub returns-in-Ok-None-clause-all : goal.returns-in-Ok-None-clause-all
returns-in-Ok-None-clause-all g c =
    none_after g.G.Gateway.exchanges _ _ _ c.in-Ok-None.field-0-is c.in-Ok-None.ensures.same c.in-Ok-None.ensures.learns c.in-Ok-None.ensures.by

pub returns-in-Err-clause-err : goal.returns-in-Err-clause-err
returns-in-Err-clause-err g c =
    subst (OpenFails c.args.self.now.attempts c.args.self.now.prefix) (sym c.open_fault_of.ensures)
    (fails_by c.args.self.now c.loop-number.self _ _ c.in-Err.fault c.loop-number.self.kept c.in-Err.ensures.by.0
    c.loop-number.invariant.same c.in-Err.ensures.by.2)

pub returns-then-is_err-clause-err : goal.returns-then-is_err-clause-err
returns-then-is_err-clause-err g c = fails_full _ _

pub returns-then-is_err-clause-goes_on : goal.returns-then-is_err-clause-goes_on
returns-then-is_err-clause-goes_on g c = grind (arith, common_steps)

pub returns-in-Ok-None-clause-goes_on : goal.returns-in-Ok-None-clause-goes_on
returns-in-Ok-None-clause-goes_on g c = grind (arith, common_steps)

pub returns-in-Err-clause-goes_on : goal.returns-in-Err-clause-goes_on
returns-in-Err-clause-goes_on g c = grind (arith, common_steps)

pub loop-number-preserved : goal.loop-number-preserved
loop-number-preserved g c = grind (arith, common_steps)
