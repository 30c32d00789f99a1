-- No attempt so far brought a reply.
use Rattle.etcd_records.proofs.AskLemmas.{AreMissed}
use Rattle.etcd_records.proofs.asking.ask.Given as goal

abbrev pub invariant-loop-attempt : goal.invariant-loop-attempt
invariant-loop-attempt g l =
    AreMissed l.seen (g.G.Gateway.exchanges l.fn.gateway) (g.G.Gateway.exchanges l.gateway) l.path l.body l._attempt l.cause l.in_doubt
