use Rattle.std.proofs.Common.{◌≡◌, map, length, IsFalse, IsTrue}
use Rattle.std.specs.List.{AllZip}
use Rattle.rtrb.specs.Ring.{SameConsumer, received}
use Rattle.access_logs.proofs.WrittenLemmas.{WrittenTo}
use Rattle.access_logs.proofs.queues.rings.write_rings.Given as goal

-- the rings before the index are done
abbrev pub invariant-loop-ring : goal.invariant-loop-ring
invariant-loop-ring g l =
    let output = g.W.WriteWhole.output in
    record {
      written :
          WrittenTo received l.ring-index l.fn.rings l.rings (output l.fn.page.out.now) (output l.page.out.now)
          l.fn.page.is_cut l.page.is_cut;
      out : l.page.out.ghost_name ≡ l.fn.page.out.ghost_name;
      none : IsFalse l.found → map received l.rings ≡ map received l.fn.rings;
      some : IsTrue l.found → map received l.rings ≡ map received l.fn.rings → ⊥;
      same : AllZip SameConsumer l.fn.rings l.rings;
      room : length l.room ≡ length l.fn.room;
    }
