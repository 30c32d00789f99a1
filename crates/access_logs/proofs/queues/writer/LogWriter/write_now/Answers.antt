use Rattle.std.proofs.Common.{rules, ◌≡◌, ◌∙◌, ◌++◌, length, take, drop, ap, subst, sym}
use Rattle.std.specs.List.{AllZip}
use Rattle.rtrb.specs.Ring.{SameConsumer}
use Rattle.access_logs.proofs.RingLemmas.{roomy-same, written-back}
use Rattle.access_logs.proofs.queues.writer.LogWriter.write_now.Goals as goal

pub invariant_of-self-inside : goal.invariant_of-self-inside
invariant_of-self-inside g c =
    let was = c.self.inside in
    let new = c.write_rings.new in
    let rings = take was.rings.len (new.rings ++ drop (length new.rings) was.rings.items) in
    let room = take was.room.len (new.room ++ drop (length new.room) was.room.items) in
    let many : length new.rings ≡ was.rings.len = search rules in
    let bytes : length new.room ≡ was.room.len = search rules in
    let all : AllZip SameConsumer was.rings.items new.rings = search rules in
    let size : length new.room ≡ length was.room.items = search rules in
    let same : AllZip SameConsumer was.rings.items rings =
    subst (λ ends. AllZip SameConsumer was.rings.items ends) (sym (written-back was.rings.len new.rings was.rings.items many)) all
    in
    let long : length room ≡ length was.room.items =
    ap (λ xs. length xs) (written-back was.room.len new.room was.room.items bytes) ∙ size
    in
    (roomy-same was.rings.items rings (length was.room.items) (length room) same long was.roomy, tt)
