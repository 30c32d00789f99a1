use Rattle.replies.proofs.LoopLemmas.{HaveReplies}
use Rattle.replies.proofs.rendering.reply_to_apps.Given as goal

abbrev pub invariant-loop-index : goal.invariant-loop-index
invariant-loop-index l =
    HaveReplies l.catalogue l.request.session l.mirrors l.request.apps l.plan.choices l.outcomes l.index l.replies.items
