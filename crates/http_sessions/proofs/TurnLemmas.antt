-- One message of a session, by what was read and what came of the reply.
use Rattle.std.proofs.Common.{◌≡◌, ℕ, ◌+◌, ◌<◌, ◌≤◌, Bool, true, false, ◌||◌, ◌==◌, List, ◌++◌, take, length, Option, None, Some, Result, Ok, Err, inl, inr, refl, sym, subst, ap, ◌∙◌, arith}
use Rattle.std.proofs.Math.Seq.{take-append_seam}
use Rattle.std.proofs.lemmas.List.{length-take-le}
use Rattle.std.specs.Io.KnownBytes.{Appends, Consumes, IsAtEnd}
use Rattle.http_wire.specs.declared.heads.status.Status.{Status}
use Rattle.http_wire.specs.Sending.{AppendsPart}
use Rattle.values.specs.declared.failed.Failed.{Failed}
use Rattle.http_desks.specs.declared.answering.Handled.{Handled}
use Rattle.http_desks.specs.declared.method.Method.{Method}
use Rattle.http_desks.specs.Calls.{Call, Leads}
use Rattle.http_desks.specs.Replies.{Answers, Writes, empty_reply, handled_of, reply_to}
use Rattle.http_desks.specs.Uses.{Use}
use Rattle.http_sessions.specs.declared.ends.End.{End}
use Rattle.http_sessions.specs.declared.ends.Fault.{Fault}
use Rattle.http_sessions.specs.declared.ends.Fault.TheVariants as fault
use Rattle.http_sessions.specs.declared.ends.Served.{Served}
use Rattle.http_sessions.specs.declared.message.Plan.{Plan}
use Rattle.http_sessions.specs.declared.session.Session.{Session}
use Rattle.http_sessions.specs.declared.session.Turn.{Turn}
use Rattle.http_sessions.specs.declared.session.Turn.TheVariants.{Open, Ended}
use Rattle.http_sessions.specs.Messages.{Exchange, IsExchange, asks_close, closing, exchange_bytes, exchange_calls}
use Rattle.http_sessions.specs.Stops.{Bad, Ends, Last, Long, Refuses, Stop, StopsAt, Waits, end_after, end_with, stop_bytes, stop_calls}
use Rattle.http_sessions.specs.Readings.{IsMessage, IsPart, IsRejected}
use Rattle.http_sessions.specs.Sessions.{Comes, Rejects, Serves, TurnEnds, replies, wrote}
use Rattle.http_sessions.proofs.SessionLemmas.{Appends-nothing, opened, stopped}

-- the end of a session after a reply
go_on_ends :
    (last : Bool) (left : Option (List ℕ)) (rest : List ℕ) (e : Exchange) (closes : Bool) (outcome : Handled) (how : End) →
    handled_of e.used ≡ Some outcome →
    closes ≡ closing last e.head →
    end_after closes (Some outcome) ≡ Some how →
    Ends last left (Last e) rest how
go_on_ends last left rest e closes outcome how came same ends =
    ap (end_after (closing last e.head)) came ∙ ap (λ (b : Bool). end_after b (Some outcome)) (sym same) ∙ ends

-- what keeps a connection open
or_false_left : (a b : Bool) → (a || b) ≡ false → a ≡ false
or_false_left true b e = cc
or_false_left false b e = refl

module _ {D : Type 0} (IsFit : Method → List ℕ → Use → Type 0) (steps : D → Call → D → Type 0) (kind : List ℕ) where
  -- the reply that rejects a message, if a stop has it
  rejects :
      (start : ℕ) (why : Status) (first given : List ℕ) (left after old new : Option (List ℕ)) (desk : D)
      (result : Result Turn Fault) (stop : Stop) →
      Consumes left after given →
      start < 1000 →
      StopsAt IsFit stop (first ++ given) →
      stop_bytes kind (start == 999) stop ≡ empty_reply why None true →
      ((served : Served) → served.requests ≡ start + 1 → Rejects start why old new (Ok (Ended served)) →
      TurnEnds after start (Ok (Ended served)) 0 stop (first ++ given)) →
      Leads steps desk (stop_calls stop) desk →
      Rejects start why old new result →
      Serves IsFit steps kind start (TurnEnds after start result) (wrote result) first left after old new desk desk
  rejects start why first given left after old new desk (Ok (Ended served)) stop consumed few stops text ends calls (count, how, sent) =
      stopped IsFit steps kind start (TurnEnds after start (Ok (Ended served))) true first given left after old new desk desk stop
      consumed few stops (subst (Appends old new) (sym text) sent) calls (ends served count (count, how, sent))
  rejects start why first given left after old new desk (Ok (Open session)) stop consumed few stops text ends calls never = absurd never
  rejects start why first given left after old new desk (Err fault.Read) stop consumed few stops text ends calls never = absurd never
  rejects start why first given left after old new desk (Err fault.Memory) stop consumed few stops text ends calls never = absurd never
  rejects start why first given left after old new desk (Err fault.Write) stop consumed few stops text ends calls part =
      stopped IsFit steps kind start (TurnEnds after start (Err fault.Write)) false first given left after old new desk desk stop
      consumed few stops (subst (AppendsPart old new) (sym text) part) calls refl

  -- bytes that can't begin a message
  pub rejected :
      (start : ℕ) (why : Status) (first given : List ℕ) (left after old new : Option (List ℕ)) (desk : D)
      (result : Result Turn Fault) →
      Consumes left after given →
      start < 1000 →
      IsRejected why (first ++ given) →
      Rejects start why old new result →
      Serves IsFit steps kind start (TurnEnds after start result) (wrote result) first left after old new desk desk
  rejected start why first given left after old new desk result consumed few (inl (same, never)) written =
      rejects start why first given left after old new desk result Bad consumed few never
      (ap (λ (s : Status). empty_reply s None true) (sym same))
      (λ served count rejected. (refl, count, rejected.1)) refl written
  rejected start why first given left after old new desk result consumed few (inr (inl (same, long))) written =
      rejects start why first given left after old new desk result Long consumed few long
      (ap (λ (s : Status). empty_reply s None true) (sym same))
      (λ served count rejected. (refl, count, rejected.1)) refl written
  rejected start why first given left after old new desk result consumed few (inr (inr (head, behind, begins, framed))) written =
      rejects start why first given left after old new desk result (Refuses head why) consumed few (behind, begins, framed)
      refl (λ served count rejected. (refl, count, rejected.1)) refl written

  -- less than a message, and the input has ended
  pub ended :
      (start : ℕ) (how : End) (first given : List ℕ) (left after old : Option (List ℕ)) (desk : D) →
      Consumes left after given →
      start < 1000 →
      IsPart (first ++ given) →
      IsAtEnd after →
      how ≡ end_with (first ++ given) →
      Serves IsFit steps kind start (TurnEnds after start (Ok (Ended (record { requests = start; end = how })))) true
      first left after old old desk desk
  ended start how first given left after old desk consumed few part at_end same =
      let none : start ≡ start + 0 = omega arith in
      stopped IsFit steps kind start (TurnEnds after start (Ok (Ended (record { requests = start; end = how })))) true
      first given left after old old desk desk Waits consumed few part (Appends-nothing old) refl (refl, none, (at_end, same))

  -- less than a message, and a read failed
  pub failed :
      (start : ℕ) (first given : List ℕ) (left after old : Option (List ℕ)) (desk : D) →
      Consumes left after given →
      start < 1000 →
      IsPart (first ++ given) →
      Serves IsFit steps kind start (TurnEnds after start (Err fault.Read)) true first left after old old desk desk
  failed start first given left after old desk consumed few part =
      stopped IsFit steps kind start (TurnEnds after start (Err fault.Read)) true first given left after old old desk desk Waits
      consumed few part (Appends-nothing old) refl (refl, refl)

  -- a whole message, by how its reply came out
  replied_so :
      (session : Session) (first given : List ℕ) (e : Exchange) (closes : Bool) (left after old new : Option (List ℕ))
      (before behind : D) (outcome : Result Handled Failed) (result : Result Turn Fault) →
      Consumes left after given →
      first ++ given ≡ exchange_bytes e ++ session.window →
      IsExchange IsFit e →
      closes ≡ closing (replies session == 999) e.head →
      Leads steps before (exchange_calls e) behind →
      Writes (reply_to kind closes e.used) (handled_of e.used) old new outcome →
      Comes session closes outcome result →
      Serves IsFit steps kind (replies session) (TurnEnds after (replies session) result) (wrote result)
      first left after old new before behind
  replied_so session first given e closes left after old new before behind (Ok outcome) (Ok (Open next))
      consumed cut exchange closed calls (came, sent) (stays, whole, window, count) =
      opened IsFit steps kind (replies session) (TurnEnds after (replies session) (Ok (Open next))) first given session.window
      left after old new before behind e consumed cut
      (record {
        exchange = exchange;
        stays = or_false_left (asks_close e.head) (replies session == 999) (sym closed ∙ stays);
        whole = came ∙ ap Some whole;
      })
      (omega (arith, next.few, count))
      (subst (λ (b : Bool). Appends old new (reply_to kind b e.used)) stays sent)
      calls (refl, refl, window, count)
  replied_so session first given e closes left after old new before behind (Ok outcome) (Ok (Ended served))
      consumed cut exchange closed calls (came, sent) (count, ends) =
      stopped IsFit steps kind (replies session) (TurnEnds after (replies session) (Ok (Ended served))) true first given
      left after old new before behind (Last e) consumed session.few (session.window, cut, exchange)
      (subst (λ (b : Bool). Appends old new (reply_to kind b e.used)) closed sent) calls
      (refl, count, go_on_ends (replies session == 999) after (first ++ given) e closes outcome served.end came closed ends)
  replied_so session first given e closes left after old new before behind (Ok outcome) (Err failed)
      consumed cut exchange closed calls written never = absurd never
  replied_so session first given e closes left after old new before behind (Err failed) (Ok turn)
      consumed cut exchange closed calls written never = absurd never
  replied_so session first given e closes left after old new before behind (Err failed) (Err fault.Read)
      consumed cut exchange closed calls written never = absurd never
  replied_so session first given e closes left after old new before behind (Err failed) (Err fault.Memory)
      consumed cut exchange closed calls written never = absurd never
  replied_so session first given e closes left after old new before behind (Err failed) (Err fault.Write)
      consumed cut exchange closed calls part comes =
      stopped IsFit steps kind (replies session) (TurnEnds after (replies session) (Err fault.Write)) false first given
      left after old new before behind (Last e) consumed session.few (session.window, cut, exchange)
      (subst (λ (b : Bool). AppendsPart old new (reply_to kind b e.used)) closed part) calls refl

  -- a whole message, and what came of its reply
  pub replied :
      (session : Session) (first given target body : List ℕ) (plan : Plan) (closes : Bool)
      (left after old new : Option (List ℕ)) (before behind : D) (outcome : Result Handled Failed) (result : Result Turn Fault) →
      Consumes left after given →
      IsMessage (first ++ given) session.window target body plan →
      plan.size ≤ length body →
      closes ≡ (plan.closes || (replies session == 999)) →
      Answers (IsFit plan.method (take plan.target target)) steps kind (take plan.size body) closes before behind old new outcome →
      Comes session closes outcome result →
      Serves IsFit steps kind (replies session) (TurnEnds after (replies session) result) (wrote result)
      first left after old new before behind
  replied session first given target body plan closes left after old new before behind outcome result consumed message room closed answers comes =
      let e : Exchange = record { head = message.head; body = take plan.size body; used = answers.used } in
      let (framed, method, asked) = message.planned in
      let exchange : IsExchange IsFit e = record {
        head = message.valid;
        short = message.short;
        framed = framed ∙ ap Ok (sym (length-take-le plan.size body room));
        fits = subst (λ (m : Method). IsFit m message.head.target answers.used) method
            (subst (λ (t : List ℕ). IsFit plan.method t answers.used) message.names answers.fits);
      } in
      replied_so session first given e closes left after old new before behind outcome result
      consumed message.whole exchange (closed ∙ ap (λ (b : Bool). b || (replies session == 999)) asked) answers.calls answers.writes comes

-- all of the elements before others
pub take-all-before : (xs ys : List ℕ) (n : ℕ) → length xs ≡ n → take n (xs ++ ys) ≡ xs
take-all-before xs ys n long = subst (λ (k : ℕ). take k (xs ++ ys) ≡ xs) long (take-append_seam xs ys)
