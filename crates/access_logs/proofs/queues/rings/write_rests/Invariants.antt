use Rattle.std.proofs.Common.{◌≡◌, map, length}
use Rattle.std.specs.List.{AllZip}
use Rattle.rtrb.specs.Ring.{SameConsumer, received}
use Rattle.access_logs.specs.Queues.{AreEndsOf}
use Rattle.access_logs.proofs.RingLemmas.{AllRead}
use Rattle.access_logs.proofs.WrittenLemmas.{WrittenTo}
use Rattle.access_logs.proofs.queues.rings.write_rests.Given as goal

-- what the senders before the index have sent was received
abbrev pub invariant-loop-index : goal.invariant-loop-index
invariant-loop-index g l =
    let output = g.W.WriteWhole.output in
    record {
      written :
          WrittenTo received l.index l.fn.rings l.rings (output l.fn.page.out.now) (output l.page.out.now)
          l.fn.page.is_cut l.page.is_cut;
      out : l.page.out.ghost_name ≡ l.fn.page.out.ghost_name;
      all : AllRead l.index l.ended l.rings;
      sent : map (λ sender. sender.sent) l.ended ≡ map (λ sender. sender.sent) l.fn.ended;
      ends : AreEndsOf l.ended l.rings;
      same : AllZip SameConsumer l.fn.rings l.rings;
      room : length l.room ≡ length l.fn.room;
    }
