-- What was learnt, beside what was heard.
use Rattle.std.proofs.Common.{List, []}
use Rattle.catalogue.specs.Histories.{History}
use Rattle.publisher.specs.declared.learnt.Learnt.{Learnt}
use Rattle.publisher.specs.declared.learnt.Learnt.TheVariants as learnt
use Rattle.publisher.specs.Heard.{GoesOn}
use Rattle.publisher.specs.Learnt.{heard_with}

-- an edition that begins with what was heard and with what was learnt
pub goes_on-learnt : (now : History) (what : Learnt) (heard : List History)
    → GoesOn now (heard_with what []) → GoesOn now heard → GoesOn now (heard_with what heard)
goes_on-learnt now learnt.Nothing heard of_learnt of_heard = of_heard
goes_on-learnt now (learnt.Of history) heard of_learnt of_heard = (of_learnt.0, of_heard)
goes_on-learnt now learnt.Lost heard of_learnt of_heard = of_heard
