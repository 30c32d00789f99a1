use Rattle.std.proofs.Common.{◌∙◌, ◌<◌, ◌≤◌, length, map, refl, subst, sym, arith}
use Rattle.rtrb.specs.Ring.{received}
use Rattle.access_logs.specs.Queues.{HasReceived}
use Rattle.access_logs.proofs.RingLemmas.{AllRead-after, AllRead-all, AllRead-past, all-same, all-set, ends-at, ends-beyond, ends-set, ends-within, roomy-at, roomy-same}
use Rattle.access_logs.proofs.WrittenLemmas.{WrittenTo-after, WrittenTo-all, map-set_same}
use Rattle.access_logs.proofs.queues.rings.write_rests.Goals as goal
use Rattle.access_logs.proofs.queues.rings.write_rests.Goals.{then-index-ended, else-index-ended}

pub loop-index-init : goal.loop-index-init
loop-index-init g c =
    record {
      written = (refl, refl, refl);
      out = refl;
      all = tt;
      sent = refl;
      ends = c.requires.ends;
      same = all-same c.args.rings.now;
      room = refl;
    }

pub write_rest-requires-clause-ends : goal.write_rest-requires-clause-ends
write_rest-requires-clause-ends g c =
    ends-at c.loop-index.index c.loop-index.ended c.loop-index.rings c.index-ended-index.result c.index-rings-index.result
    c.loop-index.invariant.ends c.if-index-ended.true

pub write_rest-requires-clause-room : goal.write_rest-requires-clause-room
write_rest-requires-clause-room g c =
    let within : c.loop-index.index < length c.loop-index.rings =
    omega (arith, c.loop-index-test.true, c.loop-index.auto.rings, c.loop-index.auto.index-end)
    in
    roomy-at c.loop-index.index c.loop-index.rings c.index-rings-index.result (length c.loop-index.room)
    (roomy-same c.args.rings.now c.loop-index.rings (length c.args.room.now) (length c.loop-index.room)
    c.loop-index.invariant.same c.loop-index.invariant.room c.requires.room) within

pub loop-index-preserved : goal.loop-index-preserved
loop-index-preserved g c =
    let output = g.W.WriteWhole.output in
    let before = c.loop-index in
    let within : before.index < length before.rings =
    omega (arith, c.loop-index-test.true, before.auto.rings, before.auto.index-end)
    in
    elim c.if-index-ended.branch [
      | then-index-ended w ↦
          let new = w.write_rest.new in
          let first : before.index < length before.ended = w.if-index-ended.true in
          rw (w.rings-is, w.ended-is, w.room-is, w.page-is) record {
            written =
                WrittenTo-after received before.index c.args.rings.now before.rings w.index-rings-index.result new.ring
                (output c.args.page.now.out.now) (output before.page.out.now) (output new.page.out.now)
                c.args.page.now.is_cut before.page.is_cut new.page.is_cut within w.write_rest.ensures.written
                before.invariant.written;
            out = w.write_rest.ensures.out ∙ before.invariant.out;
            all =
                AllRead-after before.index before.ended before.rings new.ended new.ring first within
                (w.write_rest.ensures.all ∙ sym w.write_rest.ensures.sent) before.invariant.all;
            sent =
                map-set_same (λ sender. sender.sent) before.index before.ended w.index-ended-index.result new.ended
                w.write_rest.ensures.sent
                ∙ before.invariant.sent;
            ends =
                ends-set before.index before.ended before.rings new.ended new.ring before.invariant.ends
                w.write_rest.ensures.ends;
            same =
                all-set before.index c.args.rings.now before.rings w.index-rings-index.result new.ring before.invariant.same
                w.write_rest.ensures.same;
            room = w.write_rest.ensures.room ∙ before.invariant.room;
          }
      | else-index-ended w ↦
          let new = w.write_ring.new in
          let few : length before.ended ≤ before.index = omega (arith, w.if-index-ended.false) in
          rw (w.rings-is, w.ended-is, w.room-is, w.page-is) record {
            written =
                WrittenTo-after received before.index c.args.rings.now before.rings
                w.index-rings-index-else-index-ended.result new.ring (output c.args.page.now.out.now)
                (output before.page.out.now) (output new.page.out.now) c.args.page.now.is_cut before.page.is_cut
                new.page.is_cut within w.write_ring.ensures.written before.invariant.written;
            out = w.write_ring.ensures.out ∙ before.invariant.out;
            all = AllRead-past before.index before.ended before.rings new.ring few before.invariant.all;
            sent = before.invariant.sent;
            ends = ends-beyond before.index before.ended before.rings new.ring few before.invariant.ends;
            same =
                all-set before.index c.args.rings.now before.rings w.index-rings-index-else-index-ended.result new.ring
                before.invariant.same w.write_ring.ensures.same;
            room = w.write_ring.ensures.room ∙ before.invariant.room;
          }
    ]

pub returns-clause-written : goal.returns-clause-written
returns-clause-written g c =
    let output = g.W.WriteWhole.output in
    let most : length c.args.rings.now ≤ c.loop-index.index = omega (arith, c.loop-index-test.false, c.loop-index.auto.index-end) in
    WrittenTo-all received c.loop-index.index c.args.rings.now c.loop-index.rings (output c.args.page.now.out.now)
    (output c.loop-index.page.out.now) c.args.page.now.is_cut c.loop-index.page.is_cut most c.loop-index.invariant.written

pub returns-clause-all : goal.returns-clause-all
returns-clause-all g c =
    let last = c.loop-index in
    let within = ends-within last.ended last.rings last.invariant.ends in
    let few : length last.ended ≤ last.index = omega (arith, within, c.loop-index-test.false, last.auto.rings, last.auto.index-end) in
    subst (λ sents. HasReceived sents (map received last.rings)) last.invariant.sent
    (AllRead-all last.index last.ended last.rings few last.invariant.all)
