use Rattle.std.proofs.Common.{◌-◌, length, map, subst}
use Rattle.std.proofs.lemmas.List.{length-map}
use Rattle.std.specs.List.{AllZip}
use Rattle.rtrb.specs.Ring.{SameConsumer}
use Rattle.access_logs.specs.Queues.{HaveLogged, IsWhole}
use Rattle.access_logs.proofs.RingLemmas.{ends-stay}
use Rattle.access_logs.proofs.WholeLemmas.{IsWhole-last}
use Rattle.access_logs.proofs.queues.thread.WriterThread.finish.Goals as goal

pub write_rest-requires : goal.write_rest-requires
write_rest-requires g c =
    let began = c.args.self.began.value in
    let joined = c.join-writer.result.0 in
    let same : AllZip SameConsumer began.writer.ends joined.ends =
    subst (λ writer. AllZip SameConsumer writer.ends joined.ends) c.args.self.writer c.join-writer.ensures.1
    in
    record {
      ends =
          ends-stay began.opened.value.items c.args.ended.items began.writer.ends joined.ends began.ends c.requires.ended
          same;
    }

pub returns-clause-whole : goal.returns-clause-whole
returns-clause-whole g c =
    let output = g.W.WriteWhole.output in
    let began = c.args.self.began.value in
    let task = c.args.self.handle.promise.0.value in
    let joined = c.join-writer.result in
    let last = c.write_rest.new in
    let logged : HaveLogged began.writer.received joined.0.received (output began.page.out.now) (output joined.1.out.now)
    began.page.is_cut joined.1.is_cut =
    subst
    (λ writer. HaveLogged writer.received joined.0.received (output began.page.out.now) (output joined.1.out.now)
    began.page.is_cut joined.1.is_cut) c.args.self.writer
    (subst
    (λ page. HaveLogged task.writer.received joined.0.received (output page.out.now) (output joined.1.out.now) page.is_cut
    joined.1.is_cut) c.args.self.page c.join-writer.ensures.2)
    in
    let total = length began.opened.value.items in
    let sents = map (λ sender. sender.sent) c.args.ended.items in
    subst (λ many. IsWhole (total - many) sents (output began.page.out.now) (output last.page.out.now))
    (length-map c.args.ended.items (λ sender. sender.sent))
    (IsWhole-last began.writer.received joined.0.received last.self.received sents (output began.page.out.now)
    (output joined.1.out.now) (output last.page.out.now) began.page.is_cut joined.1.is_cut last.page.is_cut total began.many
    began.unread began.whole logged c.write_rest.ensures.written c.write_rest.ensures.all)
