use Rattle.editions.specs.Editions.{content_of}
use Rattle.replies.specs.Answering.{Stock}
use Rattle.replies.proofs.AnswerLemmas.{HasBegun-all, OnErr-always}
use Rattle.replies.proofs.update_checks.reply_to.Goals as goal

pub returns-clause-err : goal.returns-clause-err
returns-clause-err g c =
    let stock : Stock = record { content = content_of c.args.edition.now; mirrors = g.T.Till.mirrors c.args.till.now } in
    OnErr-always c.render-reply.result
    (HasBegun-all stock c.args.asked.now.request.now c.in-Ok.plan.choices c.as_slice.result.now c.in-Ok-ask_each.outcomes.items
    (g.T.Till.asks c.args.till.now) (g.T.Till.asks c.ask_each.new.till) c.as_slice.ensures c.in-Ok.ensures.plan.chosen c.in-Ok-ask_each.ensures.ok)
