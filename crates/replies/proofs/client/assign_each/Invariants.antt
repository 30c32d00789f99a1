use Rattle.replies.proofs.LoopLemmas.{HaveClients}
use Rattle.replies.proofs.client.assign_each.Given as goal

abbrev pub invariant-loop-ask : goal.invariant-loop-ask
invariant-loop-ask l =
    HaveClients l.catalogue l.initial.session l.request.apps l.ask-index l.session l.clients.items
