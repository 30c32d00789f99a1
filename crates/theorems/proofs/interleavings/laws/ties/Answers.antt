use Rattle.theorems.proofs.OperatorLemmas.{operator_calls_are_events, raises_by_name_are_events}
use Rattle.theorems.proofs.TieLemmas.{answers_are_of_pending, full_books_reject, full_is_not_published, grants_are_booked, next_is_published, press_publishes, raises_are_events, rejected_is_not_published, room_is_tested, scripts_are_published, workers_reply_by_one_history}
use Rattle.theorems.proofs.interleavings.laws.ties.Goals as goal

pub returns : goal.returns
returns c =
    record {
      next = next_is_published;
      rejected = rejected_is_not_published;
      full = full_is_not_published;
      press = press_publishes;
      room = room_is_tested;
      grants = grants_are_booked;
      rejects = full_books_reject;
      raises = raises_are_events;
      named = raises_by_name_are_events;
      operator = operator_calls_are_events;
      answers = answers_are_of_pending;
      workers = workers_reply_by_one_history;
      scripts = scripts_are_published;
    }
