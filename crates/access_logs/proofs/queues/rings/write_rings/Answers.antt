use Rattle.std.proofs.Common.{◌∙◌, ◌<◌, length, true≢false, refl, sym, arith}
use Rattle.rtrb.specs.Ring.{received}
use Rattle.access_logs.proofs.RingLemmas.{all-same, all-set}
use Rattle.access_logs.proofs.WrittenLemmas.{WrittenTo-after, WrittenTo-all, map-set_same, none-before}
use Rattle.access_logs.proofs.queues.rings.write_rings.Goals as goal
use Rattle.access_logs.proofs.queues.rings.write_rings.Goals.{then-write_ring, else-write_ring}

pub loop-ring-init : goal.loop-ring-init
loop-ring-init g c =
    record {
      written = (refl, refl, refl);
      out = refl;
      none = λ _. refl;
      some = λ is. absurd (true≢false (sym is));
      same = all-same c.args.rings.now;
      room = refl;
    }

pub loop-ring-preserved : goal.loop-ring-preserved
loop-ring-preserved g c =
    let output = g.W.WriteWhole.output in
    let before = c.loop-ring in
    let index = c.loop-ring.ring-index in
    let ring = c.write_ring.new.ring in
    let within : index < length before.rings = omega (arith, c.loop-ring-test.true, before.auto.rings) in
    let next =
    WrittenTo-after received index c.args.rings.now before.rings c.ring-item.result ring (output c.args.page.now.out.now)
    (output before.page.out.now) (output c.write_ring.new.page.out.now) c.args.page.now.is_cut before.page.is_cut
    c.write_ring.new.page.is_cut within c.write_ring.ensures.written before.invariant.written
    in
    let nothing =
    none-before received index c.args.rings.now before.rings c.ring-item.result ring (output c.args.page.now.out.now)
    (output before.page.out.now) c.args.page.now.is_cut before.page.is_cut within before.invariant.written
    in
    let same =
    all-set index c.args.rings.now before.rings c.ring-item.result ring before.invariant.same c.write_ring.ensures.same
    in
    let room = c.write_ring.ensures.room ∙ before.invariant.room in
    elim c.if-write_ring.branch [
      | then-write_ring w ↦ record {
        written = next;
        out = c.write_ring.ensures.out ∙ before.invariant.out;
        none = λ not. absurd (true≢false (sym w.found-is ∙ not));
        some = λ is same. c.write_ring.ensures.some w.if-write_ring.true (nothing same).0;
        same = same;
        room = room;
      }
      | else-write_ring w ↦ record {
        written = next;
        out = c.write_ring.ensures.out ∙ before.invariant.out;
        none = λ not.
            map-set_same received index before.rings c.ring-item.result ring (c.write_ring.ensures.none w.if-write_ring.false)
            ∙ before.invariant.none (sym w.found-is ∙ not);
        some = λ is same. before.invariant.some (sym w.found-is ∙ is) (nothing same).1;
        same = same;
        room = room;
      }
    ]

pub returns-clause-written : goal.returns-clause-written
returns-clause-written g c =
    let output = g.W.WriteWhole.output in
    WrittenTo-all received c.loop-ring.ring-index c.args.rings.now c.loop-ring.rings
    (output c.args.page.now.out.now) (output c.loop-ring.page.out.now) c.args.page.now.is_cut c.loop-ring.page.is_cut
    c.loop-ring-test.false c.loop-ring.invariant.written
