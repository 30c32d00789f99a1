-- What holds of all logs.
use Rattle.std.specs.Prelude.{ℕ, Bool, List}
use Rattle.std.specs.List.{AllZip}
use Rattle.rtrb.specs.Ring.{SameConsumer}
use Rattle.streams.specs.Streams.{Known}
use Rattle.access_logs.specs.Queues.{AreEnds, AreEndsOf, Ended, HaveEnded, HaveLogged, HaveWritten, ReceivingEnd, Sending}

-- what was logged, and then written in one more round, was logged
abbrev pub LogsOn : Type 0
LogsOn =
    (befores middles afters : List (List ℕ)) (old between new : Known) (was_cut was_between is_cut : Bool) →
    HaveLogged befores middles old between was_cut was_between → HaveWritten middles afters between new was_between is_cut →
    HaveLogged befores afters old new was_cut is_cut

-- what was logged twice in a row was logged
abbrev pub LogsTwice : Type 0
LogsTwice =
    (befores middles afters : List (List ℕ)) (old between new : Known) (was_cut was_between is_cut : Bool) →
    HaveLogged befores middles old between was_cut was_between → HaveLogged middles afters between new was_between is_cut →
    HaveLogged befores afters old new was_cut is_cut

-- senders that have ended had the other ends of a writer's first rings, if they had them as they were opened
abbrev pub EndsStay : Type 0
EndsStay =
    (senders : List Sending) (ended : List Ended) (firsts lasts : List ReceivingEnd) →
    AllZip (λ sender end. AreEnds sender.end end) senders firsts → HaveEnded senders ended →
    AllZip SameConsumer firsts lasts → AreEndsOf ended lasts
