-- The reply to bytes that no message begins with, as a part of a session.
use Rattle.std.proofs.Common.{◌≡◌, ◌+◌, ◌<◌, ◌==◌, ℕ, Bool, true, List, [], append-nil, length, Option, None, Some, inl, inr, refl, sym, subst, ap, arith}
use Rattle.http_wire.specs.declared.heads.status.Status.{Status}
use Rattle.http_desks.specs.declared.method.Method.{Method}
use Rattle.http_desks.specs.Calls.{Call, Leads}
use Rattle.http_desks.specs.Replies.{empty_reply}
use Rattle.http_desks.specs.Uses.{Use}
use Rattle.http_sessions.specs.declared.ends.End.TheVariants.{Refused}
use Rattle.http_sessions.specs.Messages.{Exchange}
use Rattle.http_sessions.specs.Readings.{IsRejected}
use Rattle.http_sessions.specs.Sessions.{Writes}
use Rattle.http_sessions.specs.Stops.{Bad, Ends, Long, Refuses, Stop, StopsAt, begun, stop_bytes, stop_calls}
use Rattle.http_sessions.specs.Leaves.{EndsOver, IsRejection, Leaves, Makes}
use Rattle.http_sessions.specs.declared.talks.outcome.After.{After}
use Rattle.http_sessions.specs.declared.talks.outcome.After.TheVariants as after

module _ (IsFit : Method → List ℕ → Use → Type 0) (kind kept : List ℕ) where
  -- the stop at these bytes, which this status rejects
  record RejectsAt (why : Status) : Type 0 where
    stop : Stop
    stops : StopsAt IsFit stop kept
    text : (last : Bool) → stop_bytes kind last stop ≡ empty_reply why None true
    asks : stop_calls stop ≡ []
    one : begun stop ≡ 1
    ends : (last : Bool) (left : Option (List ℕ)) → Ends last left stop kept Refused

  rejects_at : (why : Status) → IsRejected why kept → RejectsAt why
  rejects_at why (inl (is, never)) = record {
    stop = Bad;
    stops = never;
    text = λ last. ap (λ (w : Status). empty_reply w None true) (sym is);
    asks = refl;
    one = refl;
    ends = λ last left. refl;
  }
  rejects_at why (inr (inl (is, long))) = record {
    stop = Long;
    stops = long;
    text = λ last. ap (λ (w : Status). empty_reply w None true) (sym is);
    asks = refl;
    one = refl;
    ends = λ last left. refl;
  }
  rejects_at why (inr (inr (head, others, begins, rejects))) = record {
    stop = Refuses head why;
    stops = (others, begins, rejects);
    text = λ last. refl;
    asks = refl;
    one = refl;
    ends = λ last left. refl;
  }

  module _ {D : Type 0} (steps : D → Call → D → Type 0) (start : ℕ) (few : start < 1000) (desk : D) where
    made_rejection :
        (why : Status) (whole : Bool) (made : List ℕ) (IsEnd : ℕ → Stop → List ℕ → Type 0) (at : RejectsAt why) →
        Writes whole (Some []) (Some made) [] (empty_reply why None true) → IsEnd 0 at.stop kept →
        Makes IsFit steps kind start IsEnd whole kept [] made desk desk
    made_rejection why whole made IsEnd at written ends = record {
      given = kept;
      exchanges = [];
      stop = at.stop;
      rest = kept;
      consumed = sym (append-nil kept);
      cut = refl;
      each = tt;
      few = omega (arith, few);
      stops = at.stops;
      written = subst (λ (text : List ℕ). Writes whole (Some []) (Some made) [] text)
          (sym (at.text (start + length {A = Exchange} [] == 999))) written;
      calls = subst (λ (made : List Call). Leads steps desk made desk) (sym at.asks) refl;
      ends = ends;
    }

    -- a reply that rejects the bytes
    pub rejection_leaves :
        (why : Status) (left : After) → IsRejected why kept → IsRejection why left →
        Leaves IsFit steps kind start kept desk desk left
    rejection_leaves why (after.Open opened) rejected is = absurd is
    rejection_leaves why (after.Sends started) rejected is = absurd is
    rejection_leaves why (after.Over made) rejected is =
        let at = rejects_at why rejected in
        ([], made_rejection why true made.items (EndsOver start []) at is (refl, (Refused, at.ends (start == 999) (Some [])), at.one))
    rejection_leaves why (after.Failed made) rejected is = absurd is
    rejection_leaves why after.Lost rejected is = refl
