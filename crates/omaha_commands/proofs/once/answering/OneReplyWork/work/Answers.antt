use Rattle.std.proofs.Common.{◌≡◌, ◌∙◌, true, ap, is_ok, not}
use Rattle.omaha_commands.proofs.AnswerLemmas.{IfOk-of, IsRepliedAlone-reply, alone_last, only_till}
use Rattle.omaha_commands.proofs.once.answering.OneReplyWork.work.Goals as goal

pub returns-clause-works : goal.returns-clause-works
returns-clause-works g c =
    let whole : is_ok c.push.result ≡ true = c.is_err.ensures.negation ∙ ap not c.if-is_err.false in
    let pushed = rw whole at c.push.ensures.items in
    λ mirrors opened asks only.
    let one = only_till g.T.Till.asks c.pop.new.self.items c.reply-reply.new.till asks (rw pushed at only) in
    let alone = alone_last g.T.Till.mirrors g.T.Till.asks g.T.Till.alone mirrors _ _ c.in-Some.till c.in-Some.ensures.items opened one.0 in
    IfOk-of _ c.reply-reply.result (λ reply replied.
    IsRepliedAlone-reply (g.T.Till.mirrors c.in-Some.till) mirrors c.args.self.now.view c.reply-reply.new.self c.args.self.now.request.now c.args.self.now.moment
    (g.T.Till.asks c.in-Some.till) (g.T.Till.asks c.reply-reply.new.till) asks reply.items
    alone.0 alone.1 one.1 (c.reply-reply.ensures.alone alone.2).1 replied) c.reply-reply.ensures.replies
