-- Facts that have one proof at most, so that a value may keep them.
use Rattle.std.specs.Prelude.{List, [], ◌∷◌}
use Rattle.std.specs.Coded.{×_prop, Unit-prop}
use Rattle.std.specs.List.{AllZip}
use denote.Struct.Props.{props}
use Rattle.access_logs.specs.Queues.{AreEnds, ReceivingEnd, Sending, SendingEnd}

-- of two ends there is one proof at most that they are of one ring
AreEnds-prop : (sending : SendingEnd) (receiving : ReceivingEnd) → IsProp (AreEnds sending receiving)
AreEnds-prop sending receiving = hlevel props

-- the same of senders and the ends of a writer
pub AllEnds-prop :
    (senders : List Sending) (ends : List ReceivingEnd) →
    IsProp (AllZip (λ (sender : Sending) (end : ReceivingEnd). AreEnds sender.end end) senders ends)
AllEnds-prop [] [] = Unit-prop
AllEnds-prop [] (end ∷ ends) = hlevel
AllEnds-prop (sender ∷ senders) [] = hlevel
AllEnds-prop (sender ∷ senders) (end ∷ ends) = ×_prop (AreEnds-prop sender.end end) (AllEnds-prop senders ends)
