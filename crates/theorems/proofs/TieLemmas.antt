-- The contracts of the program's functions as events.
use Rattle.std.proofs.Common.{◌≡◌, ℕ, suc, ◌+◌, ◌-◌, ◌&&◌, max, Bool, true, false, eqb, ltb, cond, List, [], ◌∷◌, ◌++◌, length, Option, None, Some, Result, Ok, Err, ◌⊎◌, inl, inr, refl, sym, ap, ◌∙◌, subst, arith}
use Rattle.std.specs.Option.{is_some}
use Rattle.std.specs.Result.{is_ok}
use Rattle.std.proofs.lemmas.Bool.{and_from, and_left, and_right, cond-false, cond-true, eq-eqb, false≢true, le-leb, le-ltb, leb-true, lt-ltb, ne_eqb}
use Rattle.catalogue.specs.declared.edit.Edit.{Edit}
use Rattle.catalogue.specs.declared.fault.Refused.{Refused}
use Rattle.catalogue.specs.Histories.{History}
use Rattle.editions.specs.Editions.{max_batches, outcome_after}
use Rattle.mirror_books.specs.Budgets.{Account}
use Rattle.omaha_json.specs.ReplyWriting.{reply_bytes}
use Rattle.publisher.specs.declared.fault.PublishError.TheVariants as publishing
use Rattle.catalogue.specs.declared.content.App.{App}
use Rattle.catalogue.specs.declared.mirror.Mirror.{Mirror}
use Rattle.replies.specs.Plans.{payloads_of}
use Rattle.replies.specs.Replies.{AreOutcomes, reply_of}
use Rattle.replies.specs.declared.choices.Choice.{Choice}
use Rattle.http_desks.specs.declared.desk.DeskStatus.{DeskStatus}
use Rattle.publisher.specs.Sights.{Sight}
use Rattle.publisher.specs.declared.fault.PublishError.{PublishError}
use Rattle.service_desks.specs.Scripts.{IsPublished, IsScriptReply, publish_reply}
use Rattle.service_desks.specs.Lines.{IsUnkept}
use Rattle.service_desks.specs.States.{Publication, earlier_in, settled}
use Rattle.service_desks.specs.Workers.{stock_of}
use Rattle.replies.specs.Asking.{asks_of}
use Rattle.theorems.specs.Events.{asks, granted, rejected}
use Rattle.theorems.specs.Jobs.{Pending, bytes_asked, outcomes_by_app, outcomes_of}
use Rattle.theorems.specs.Services.{is_published, published, with_budget}
use Rattle.theorems.specs.Ties.{AnswersAreOfPending, FullBooksReject, FullIsNotPublished, GrantsAreBooked, NextIsPublished, PressPublishes, RaisesAreEvents, RejectedIsNotPublished, RoomIsTested, ScriptsArePublished, WorkersReplyByOneHistory}

module _ (history : History) (batch : List Edit) where
  taken : is_published history (length history) batch ≡ true → published history (length history)
      batch ≡ history ++ batch ∷ []
  taken test = cond-true (is_published history (length history) batch) (history ++ batch ∷ []) history test

  left : is_published history (length history) batch ≡ false → published history (length history) batch ≡ history
  left test = cond-false (is_published history (length history) batch) (history ++ batch ∷ []) history test

pub next_is_published : NextIsPublished
next_is_published history batch next continues =
    let count = length history in
    let accepted = is_ok (outcome_after history batch) in
    taken history batch
    (and_from (eqb count count) (ltb count max_batches && accepted) (eq-eqb count count refl)
    (and_from (ltb count max_batches) accepted (lt-ltb count max_batches continues.1) continues.0))
    ∙ sym continues.2

pub rejected_is_not_published : RejectedIsNotPublished
rejected_is_not_published history batch refused rejected =
    let count = length history in
    let accepted = is_ok (outcome_after history batch) in
    let none : accepted ≡ false = ap (λ (r : Result (List App) Refused). is_ok r) rejected in
    left history batch (and_right (eqb count count) (ltb count max_batches && accepted)
    (and_right (ltb count max_batches) accepted none))

pub full_is_not_published : FullIsNotPublished
full_is_not_published history batch full =
    let count = length history in
    let accepted = is_ok (outcome_after history batch) in
    let same = full.1 in
    let room : ltb count max_batches ≡ false = le-ltb count max_batches (omega arith) in
    left history batch (and_right (eqb count count) (ltb count max_batches && accepted)
    (and_left (ltb count max_batches) accepted room))

-- who knows of all batches publishes as the next edition is made
at-base : (history : History) (base : ℕ) (batch : List Edit) (after : History) → base ≡ length history →
    published history (length history) batch ≡ after → after ≡ published history base batch
at-base history base batch after known next =
    sym (ap (λ (count : ℕ). published history count batch) known ∙ next)

pub press_publishes : PressPublishes
press_publishes before base batch (Ok receipt) after publishes =
    inl (at-base before base batch after publishes.0 (next_is_published before batch after publishes.1))
press_publishes before base batch (Err (publishing.Stale now)) after stale =
    let late : is_published before base batch ≡ false =
    ap (λ (b : Bool). b && (ltb (length before) max_batches && is_ok (outcome_after before batch)))
    (ne_eqb base (length before) stale.0) in
    inl (stale.2 ∙ sym (cond-false (is_published before base batch) (before ++ batch ∷ []) before late))
press_publishes before base batch (Err (publishing.Refused refused)) after rejected =
    inl (rejected.2 ∙ at-base before base batch before rejected.0 (rejected_is_not_published before batch refused rejected.1))
press_publishes before base batch (Err publishing.HistoryFull) after full =
    inl (full.2 ∙ at-base before base batch before full.0 (full_is_not_published before batch full.1))
press_publishes before base batch (Err publishing.NoPlace) after never = absurd never
press_publishes before base batch (Err publishing.Memory) after refused = inr (refl, refused)

pub room_is_tested : RoomIsTested
room_is_tested account bytes =
    (leb-true (account.total + bytes) account.budget, le-leb (account.total + bytes) account.budget)

same-account : (one other : Account) → one.total ≡ other.total → one.budget ≡ other.budget → one ≡ other
same-account one other total budget =
    ap (λ (n : ℕ). record { budget = one.budget; total = n }) total
    ∙ ap (λ (n : ℕ). record { budget = n; total = other.total }) budget

pub grants_are_booked : GrantsAreBooked
grants_are_booked books mirror bytes new grants =
    let own = ap (λ (b : Bool). (books mirror).total + cond b bytes 0) (eq-eqb mirror mirror refl) in
    same-account (record (books mirror) { total = (books mirror).total + cond (eqb mirror mirror) bytes 0 }) new
    (own ∙ sym grants.total) (sym grants.budget)

pub full_books_reject : FullBooksReject
full_books_reject mirrors service worker mirror bytes full =
    ap
    (λ (b : Bool). cond (asks mirrors service worker mirror bytes)
    (cond b (granted worker mirror bytes service) (rejected mirrors worker mirror service)) service)
    full

-- the budget of the mirror itself
own_budget : (books : ℕ → Account) (mirror bytes : ℕ) →
    with_budget books mirror bytes mirror ≡ record (books mirror) { budget = max (books mirror).budget bytes }
own_budget books mirror bytes =
    ap (λ (b : Bool). record (books mirror) { budget = cond b (max (books mirror).budget bytes) (books mirror).budget }) (eq-eqb mirror mirror refl)

pub raises_are_events : RaisesAreEvents
raises_are_events books mirror bytes new (inl (above, raises)) =
    own_budget books mirror bytes
    ∙ same-account (record (books mirror) { budget = max (books mirror).budget bytes }) new (sym raises.total)
    (omega (arith, above, raises.budget))
raises_are_events books mirror bytes new (inr (below, same)) =
    own_budget books mirror bytes
    ∙ same-account (record (books mirror) { budget = max (books mirror).budget bytes }) (books mirror) refl (omega (arith, below))
    ∙ sym same

-- the outcomes of a plan, without those of apps that nothing was chosen for
record HasOutcomes (plan : List (Option Choice)) (outcomes : List (Option ℕ)) : Type 0 where
  chosen : List (Option ℕ)
  is : outcomes_by_app plan chosen ≡ outcomes
  all : length chosen ≡ length (bytes_asked plan)

HasOutcomes-plan :
    (mirrors : List Mirror) (plan : List (Option Choice)) (outcomes : List (Option ℕ)) →
    AreOutcomes mirrors plan outcomes → HasOutcomes plan outcomes
HasOutcomes-plan mirrors [] [] decided = record { chosen = []; is = refl; all = refl }
HasOutcomes-plan mirrors [] (outcome ∷ outcomes) decided = absurd decided
HasOutcomes-plan mirrors (choice ∷ plan) [] decided = absurd decided
HasOutcomes-plan mirrors (None ∷ plan) (None ∷ outcomes) decided =
    let rest = HasOutcomes-plan mirrors plan outcomes decided.1 in
    record { chosen = rest.chosen; is = ap (λ (os : List (Option ℕ)). None ∷ os) rest.is; all = rest.all }
HasOutcomes-plan mirrors (None ∷ plan) (Some mirror ∷ outcomes) decided = absurd (false≢true decided.0.0)
HasOutcomes-plan mirrors (Some choice ∷ plan) (outcome ∷ outcomes) decided =
    let rest = HasOutcomes-plan mirrors plan outcomes decided.1 in
    record {
      chosen = outcome ∷ rest.chosen;
      is = ap (λ (os : List (Option ℕ)). outcome ∷ os) rest.is;
      all = ap (λ n. suc n) rest.all;
    }

pub answers_are_of_pending : AnswersAreOfPending
answers_are_of_pending stock request moment before after text reply =
    let has = HasOutcomes-plan stock.mirrors reply.plan reply.outcomes reply.asked.decided in
    let pending : Pending = record { request = request; choices = reply.plan; outcomes = has.chosen; tried = 0 } in
    record {
      pending = pending;
      reply = reply_of stock.content request (payloads_of reply.plan) (outcomes_of pending) stock.mirrors moment;
      requested = refl;
      decided = eq-eqb (length has.chosen) (length (bytes_asked reply.plan)) has.all;
      is = record {
        planned = reply.planned;
        decided = subst (AreOutcomes stock.mirrors reply.plan) (sym has.is) reply.asked.decided;
        is = refl;
      };
      asked = reply.asked.asked ∙ ap (λ (os : List (Option ℕ)). before ++ asks_of reply.plan os) (sym has.is);
      written = reply.written
          ∙ ap (λ (os : List (Option ℕ)). reply_bytes
          (reply_of stock.content request (payloads_of reply.plan) os stock.mirrors moment)) (sym has.is);
    }

pub workers_reply_by_one_history : WorkersReplyByOneHistory
workers_reply_by_one_history mirrors before after request moment text (history, enters, reply) = record {
  history = history;
  led = enters.accepted;
  risen = enters.risen;
  seen = ap (λ (sight : Sight). sight.seen) enters.left;
  is = answers_are_of_pending (stock_of history mirrors) request moment before.asks after.asks text reply;
}

-- a publish that is replied to didn't run out of memory
published-replied :
    (earlier : ℕ) (history before after : History) (outcome : Result History PublishError) (reply : DeskStatus × List ℕ) →
    publish_reply earlier outcome ≡ Some reply →
    (after ≡ history) ⊎ ((outcome ≡ Err publishing.Memory) × (after ≡ before)) →
    after ≡ history
published-replied earlier history before after outcome reply replied (inl same) = same
published-replied earlier history before after outcome reply replied (inr (memory, kept)) =
    absurd (false≢true (ap (λ (o : Option (DeskStatus × List ℕ)). is_some o) (sym (ap (publish_reply earlier) memory) ∙ replied)))

-- a script with a reply is published by somebody who knows of as many batches as its base says
pub is-published : (before : Publication) (script : List ℕ) (base : ℕ) (batch : List Edit) (reply : DeskStatus × List ℕ)
    (after : Publication) → IsPublished before script base batch reply after →
    after.history ≡ published before.history (base - earlier_in before.store) batch
is-published before script base batch reply after done =
    let known = base - earlier_in before.store in
    published-replied (earlier_in before.store) (published before.history known batch) before.history after.history
    done.outcome reply done.replied
    (press_publishes before.history known batch done.outcome after.history done.published)

published-unless_unkept : (before : Publication) (input : List ℕ) (script : ℕ × List Edit) (reply : DeskStatus × List ℕ)
    (after : Publication) → (IsUnkept reply → ⊥) → IsScriptReply before input (Ok script) reply after →
    after.history ≡ published before.history (script.0 - earlier_in before.store) script.1
published-unless_unkept before input script reply after never (inl done) =
    is-published before input script.0 script.1 reply after done
published-unless_unkept before input script reply after never (inr (unkept, same)) = absurd (never unkept)

pub scripts_are_published : ScriptsArePublished
scripts_are_published before input script reply after read never performed =
    published-unless_unkept (settled before) input script reply after never
    (subst (λ r. IsScriptReply (settled before) input r reply after) read performed)
