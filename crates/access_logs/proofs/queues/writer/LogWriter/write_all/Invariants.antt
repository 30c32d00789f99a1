use Rattle.std.proofs.Common.{◌≡◌}
use Rattle.std.specs.List.{AllZip}
use Rattle.rtrb.specs.Ring.{SameConsumer}
use Rattle.access_logs.specs.Queues.{HaveLogged}
use Rattle.access_logs.proofs.queues.writer.LogWriter.write_all.Given as goal

-- what was received so far was written
abbrev pub invariant-loop : goal.invariant-loop
invariant-loop g l =
    let output = g.W.WriteWhole.output in
    record {
      next : (goal.iterator-loop g).can_next l.iterator';
      finite : (goal.iterator-loop g).is_finite l.iterator';
      logged :
          HaveLogged l.fn.self.received l.self.received (output l.fn.page.out.now) (output l.page.out.now) l.fn.page.is_cut
          l.page.is_cut;
      out : l.page.out.ghost_name ≡ l.fn.page.out.ghost_name;
      same : AllZip SameConsumer l.fn.self.ends l.self.ends;
    }
