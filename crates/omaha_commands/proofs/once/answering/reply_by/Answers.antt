use Rattle.std.proofs.Common.{◌∙◌, ap, sym}
use Rattle.std.proofs.lemmas.Bool.{eqb-true}
use Rattle.publisher.specs.Sights.{Sight}
use Rattle.omaha_commands.proofs.AnswerLemmas.{RepliesFor-seen, only_worker}
use Rattle.omaha_commands.proofs.once.answering.reply_by.Goals as goal

pub returns : goal.returns
returns g c = record {
  ok =
      let (workers, one, replied, totals) = rw c.into_vec.ensures.list at c.in_ok-reply.ensures.ok in
      let (asks, same) = only_worker workers one in
      let left = c.work_with_tills.new.job.view in
      RepliesFor-seen (λ text. text.items) c.args.mirrors c.args.view c.new.result left c.args.request.now c.args.moment asks c.in_ok-reply.reply _
      c.replied.result (replied asks same) c.new.ensures
      (λ is. sym (ap (λ (s : Sight). s.seen) c.into_view.ensures) ∙ sym c.seen.ensures ∙ eqb-true c.seen.result c.seen-number.result is ∙ c.seen-number.ensures)
      c.replied.ensures.ok;
}
