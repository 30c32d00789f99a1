use Rattle.theorems.proofs.WrongLemmas.{booked, first, forgotten, half, late, lost, lowered, never, newest_plan, newest_reply, no_room, rejected, share, unchecked, undecided, unseen, unpublished}
use Rattle.theorems.proofs.WrongReplyLemmas.{nowhere, untrue}
use Rattle.theorems.proofs.WrongRequestLemmas.{again, another, another_time, old, previous, previous_time}
use Rattle.theorems.proofs.interleavings.laws.wrong_machines.Goals as goal

pub returns : goal.returns
returns c =
    record {
      replies = record {
        newest_reply = newest_reply;
        undecided = undecided;
        newest_plan = newest_plan;
        unchecked = unchecked;
        untrue = untrue;
        nowhere = nowhere;
      };
      requests = record {
        another = another;
        previous = previous;
        again = again;
        another_time = another_time;
        previous_time = previous_time;
      };
      entries = record { old = old; first = first; untrue = unpublished; forgotten = unseen };
      grants = record { no_room = no_room; share = share; rejected = booked; lowered = lowered; forgotten = forgotten };
      publishes = record { half = half; rejected = rejected; lost = lost; late = late; never = never };
    }
