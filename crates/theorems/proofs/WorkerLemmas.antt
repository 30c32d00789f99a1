-- The calls of a worker's desk as events.
use Rattle.std.proofs.Common.{◌≡◌, ℕ, ◌+◌, ◌<◌, ◌≤◌, inl, inr, List, [], ◌∷◌, ◌++◌, length, map, take, Option, None, Some, Result, Ok, Err, refl, sym, ap, ◌∙◌, append_assoc, subst, arith}
use Rattle.std.specs.List.{AllByRecursion, flat_map}
use Rattle.std.proofs.Math.Seq.{take-append_seam}
use Rattle.std.proofs.lemmas.Bool.{eq-eqb}
use Rattle.std.proofs.lemmas.List.{append-nil, append_cancel_left, length-map}
use Rattle.std.proofs.lemmas.List.Elements.{All-from_recursion, All-nil, filter_map-append}
use Rattle.std.proofs.lemmas.List.Sums.{sum_by-cons}
use Rattle.catalogue.specs.Histories.{History}
use Rattle.editions.specs.Editions.{content_of}
use Rattle.http_desks.specs.Calls.{Asks, Call, Looks, Shows}
use Rattle.http_desks.specs.declared.desk.DeskStatus.{DeskStatus}
use Rattle.http_desks.specs.declared.desk.DeskStatus.TheVariants as status
use Rattle.http_desks.specs.declared.desk.Off.TheVariants as off
use Rattle.mirror_ledger.specs.Asks.{Ask, booked, granted_at}
use Rattle.mirror_books.specs.Budgets.{Account}
use Rattle.omaha_json.specs.ReplyWriting.{reply_bytes}
use Rattle.omaha_json.specs.declared.fault.RequestFault.{RequestFault}
use Rattle.omaha_json.specs.declared.request.Request.{Request}
use Rattle.publisher.specs.Sights.{Sight}
use Rattle.catalogue.specs.declared.content.App.{App}
use Rattle.catalogue.specs.declared.mirror.Mirror.{Mirror}
use Rattle.replies.specs.Plans.{IsPlan, payloads_of}
use Rattle.replies.specs.Replies.{reply_of}
use Rattle.replies.specs.declared.choices.Choice.{Choice}
use Rattle.replies.specs.Answering.{HasBegun, IsReply}
use Rattle.replies.specs.Asking.{AsksFirst, asks_of}
use Rattle.service_desks.specs.Entries.{Enters, FindsNoEntry}
use Rattle.service_desks.specs.Workers.{HasStatus, IsCall, Progress, stock_of}
use Rattle.theorems.specs.Calls.{AreForRoom, Break, EntersPublished, HaveRoom, IsAfterCall, IsBetween, IsWork, LoneCallsAreForRoom, Look, Nothing, Reply as Replied, Sent, WorkerCallsAreEvents, events_of, sent_by, sent_for, sent_in, sent_to, sent_with}
use Rattle.theorems.specs.Events.{happens, run}
use Rattle.theorems.specs.Jobs.{EndedJob, Job, Pending, Worker, bytes_asked, outcomes_by_app}
use Rattle.theorems.specs.InterleavingLaws.{worker_at}
use Rattle.theorems.specs.Moves.{rendered_at, reply_by}
use Rattle.theorems.specs.Services.{Service, content_at}
use Rattle.theorems.proofs.CallLemmas.{AreAsks-plan, breaks, breaks-for-room, looks, replies, replies-for-room}
use Rattle.theorems.proofs.KeptLemmas.{IsNamed}
use Rattle.theorems.proofs.RowLemmas.{HasRows, PlansHaveRows}
use Rattle.theorems.proofs.StateLemmas.{HaveNoRoom, books_after, books_after-budget, books_after-is, changed-own, no-room-first, share_after, share_after-is, state}

-- what a mirror granted of asks, and of more
pub granted-append : (mirror : ℕ) (asks more : List Ask) →
    granted_at mirror (asks ++ more) ≡ granted_at mirror asks + granted_at mirror more
granted-append mirror [] more = omega arith
granted-append mirror (ask ∷ asks) more =
    let part = λ (a : Ask). booked mirror a.0 a.1 in
    let rest = granted-append mirror asks more in
    let long = sum_by-cons part ask (asks ++ more) in
    let short = sum_by-cons part ask asks in
    omega arith

-- the pieces of a longer list
flat-push : {A B : Type 0} (f : A → List B) (items : List A) (new : A) →
    flat_map f (items ++ new ∷ []) ≡ flat_map f items ++ f new
flat-push f [] new = append-nil (f new)
flat-push {A} {B} f (item ∷ items) new =
    ap (λ (rest : List B). f item ++ rest) (flat-push f items new)
    ∙ sym (append_assoc (f item) (flat_map f items) (f new))

-- the first items of a list, as many as there are
take-all : {A : Type 0} (items : List A) → take (length items) items ≡ items
take-all {A} items =
    ap (take (length items)) (sym (append-nil items)) ∙ take-append_seam items []

module _ (mirrors : List Mirror) (service : Service) (index : ℕ) (worker : Worker) (before after : Progress)
    (sent : List Sent) (some : 1 ≤ length mirrors) (there : worker_at service index ≡ Some worker)
    (between : IsBetween before sent worker) (rows : PlansHaveRows) where
  -- the mirrors had no room for what they rejected
  abbrev HadNoRoom : Type 0
  HadNoRoom = (asks : List Ask) → after.asks ≡ before.asks ++ asks → HaveNoRoom mirrors service.books asks

  -- the call is some work; and if the mirrors had no room, that is why they reject in it
  abbrev IsDone : List Sent → Type 0
  IsDone new =
      (work : IsWork mirrors service index before after (sent ++ new))
      × (HadNoRoom → AreForRoom mirrors service (events_of mirrors index work.work))

  abbrev at : Worker → (ℕ → Account) → Service
  at new books = state mirrors service.history service.workers index worker there new books

  abbrev resting : Worker
  resting = record { seen = worker.seen; job = None; ended = worker.ended; share = worker.share }

  begins : service ≡ at resting service.books
  begins =
      ap (λ (ws : List Worker). record { history = service.history; books = service.books; workers = ws })
      (sym (changed-own worker index service.workers there))
      ∙ ap
      (λ (job : Option Job). at (record { seen = worker.seen; job = job; ended = worker.ended; share = worker.share })
      service.books)
      between.idle

  -- a service with another worker and other books, after some asks
  left-by :
      (new : Worker) (asks : List Ask) (added : List Sent) (left : Service) →
      left ≡ at new (books_after service.books asks) → new.job ≡ None → new.seen ≡ after.sight.seen →
      ((mirror : ℕ) → new.share mirror ≡ share_after worker.share asks mirror) → sent_in new ≡ sent ++ added →
      after.asks ≡ before.asks ++ asks →
      IsAfterCall service index before after (sent ++ added) left
  left-by new asks added left is none seen shares all asked =
      let granted = λ (mirror : ℕ). ap (granted_at mirror) asked ∙ granted-append mirror before.asks asks in
      subst (IsAfterCall service index before after (sent ++ added)) (sym is)
      (record {
        worker = new;
        history = refl;
        workers = refl;
        between = record {
          idle = none;
          seen = seen;
          shares = λ mirror.
              let own = shares mirror in
              let old = between.shares mirror in
              let more = share_after-is worker.share asks mirror in
              let whole = granted mirror in
              omega arith;
          sent = all;
        };
        budgets = λ mirror. books_after-budget service.books asks mirror;
        totals = λ mirror.
            let more = books_after-is service.books asks mirror in
            let whole = granted mirror in
            omega arith;
      })

  -- nothing happened
  nothing : after.asks ≡ before.asks → after.sight.seen ≡ before.sight.seen → IsDone []
  nothing asked seen = (
    record {
      work = Nothing;
      leads =
          left-by resting [] [] service begins refl (between.seen ∙ sym seen) (λ mirror. refl)
          (between.sent ∙ sym (append-nil sent)) (asked ∙ sym (append-nil before.asks));
      asked = asked ∙ sym (append-nil before.asks);
      named = All-nil (λ (ask : Ask). IsNamed mirrors ask.1);
    },
    λ full. tt,
  )

  -- the replies of a worker whose last job ended without one
  sent-none : (job : Job) → flat_map sent_for (worker.ended ++ record { job = job; rendered = None } ∷ []) ≡ sent ++ []
  sent-none job =
      flat-push sent_for worker.ended (record { job = job; rendered = None })
      ∙ ap (λ (all : List Sent). all ++ []) between.sent

  module _ (history : History) (enters : Enters before.sight history after.sight)
      (published : history ≡ service.history)
    where
      abbrev count : ℕ
      count = length service.history

      seen-now : count ≡ after.sight.seen
      seen-now = ap (λ (h : History). length h) (sym published) ∙ sym (ap (λ (s : Sight). s.seen) enters.left)

      looked : after.asks ≡ before.asks → IsDone []
      looked asked = (
        record {
          work = Look;
          leads =
              left-by _ [] []
              (run happens mirrors service (events_of mirrors index Look))
              (ap (λ (s : Service). run happens mirrors s (events_of mirrors index Look)) begins
              ∙ looks mirrors service.history service.workers index worker there worker.seen worker.ended worker.share
              service.books)
              refl seen-now (λ mirror. refl)
              (sent-none (record { number = count; pending = None })) (asked ∙ sym (append-nil before.asks));
          asked = asked ∙ sym (append-nil before.asks);
          named = All-nil (λ (ask : Ask). IsNamed mirrors ask.1);
        },
        λ full. (tt, (tt, tt)),
      )

      -- the content of what is published
      same-content : content_of history ≡ content_at service.history count
      same-content = ap content_of (published ∙ sym (take-all service.history))

      module _ (request : Request) (plan : List (Option Choice))
          (planned : IsPlan (content_of history) request plan) where
        has : HasRows (take count service.history) request plan
        has = rows (take count service.history) request plan
            (subst (λ (apps : List App). IsPlan apps request plan) same-content planned)

        module _ (asks : List Ask) (rest : List ℕ) (parts : bytes_asked plan ≡ map (λ (ask : Ask). ask.0) asks ++ rest)
            (named : AllByRecursion (λ (ask : Ask). IsNamed mirrors ask.1) asks)
            (asked : after.asks ≡ before.asks ++ asks) (room : HaveRoom mirrors service before after) where
          has-room : (mirror : ℕ) → mirror < length mirrors →
              (service.books mirror).total + granted_at mirror asks ≤ (service.books mirror).budget
          has-room mirror below =
              let all = room mirror below in
              let whole = ap (granted_at mirror) asked ∙ granted-append mirror before.asks asks in
              omega arith

          broke : IsDone []
          broke =
              let events = events_of mirrors index (Break request has.tables asks) in (
                record {
                  work = Break request has.tables asks;
                  leads =
                      left-by _ asks [] (run happens mirrors service events)
                      (ap (λ (s : Service). run happens mirrors s events) begins
                      ∙ breaks mirrors service.history service.workers index worker there worker.seen worker.ended
                      worker.share service.books request has.tables plan has.certified has.chosen some asks rest parts
                      named
                      has-room)
                      refl seen-now (λ mirror. refl)
                      (sent-none (record {
                        number = count;
                        pending = Some (record {
                          request = request;
                          choices = plan;
                          outcomes = map (λ (ask : Ask). ask.1) asks;
                          tried = 0;
                        });
                      }))
                      asked;
                  asked = asked;
                  named = All-from_recursion (λ (ask : Ask). IsNamed mirrors ask.1) asks named;
                },
                λ full. subst (λ (s : Service). AreForRoom mirrors s events) (sym begins)
                    (breaks-for-room mirrors service.history service.workers index worker there worker.seen worker.ended
                    worker.share service.books request has.tables plan has.certified has.chosen some asks rest parts
                    named
                    has-room (full asks asked)),
              )

          replied :
              (outcomes : List (Option ℕ)) (moment : ℕ) (text : List ℕ) →
              length (bytes_asked plan) ≡ length asks →
              outcomes_by_app plan (map (λ (ask : Ask). ask.1) asks) ≡ outcomes →
              text ≡ reply_bytes (reply_of (content_of history) request (payloads_of plan) outcomes mirrors moment) →
              IsDone (record { request = request; moment = moment; text = text } ∷ [])
          replied outcomes moment text all by_app written =
              let events = events_of mirrors index (Replied request has.tables asks moment) in
              let own : Pending = record {
                request = request;
                choices = plan;
                outcomes = map (λ (ask : Ask). ask.1) asks;
                tried = 0;
              } in
              let job : EndedJob = record {
                job = record { number = count; pending = Some own };
                rendered = Some (rendered_at mirrors (content_at service.history count) moment own);
              } in
              let bytes : reply_bytes (reply_by mirrors (content_at service.history count) moment own) ≡ text =
              sym (written
              ∙ ap (λ (apps : List App).
              reply_bytes (reply_of apps request (payloads_of plan) outcomes mirrors moment)) same-content
              ∙ ap
              (λ (os : List (Option ℕ)). reply_bytes
              (reply_of (content_at service.history count) request (payloads_of plan) os mirrors moment))
              (sym by_app)) in (
                record {
                  work = Replied request has.tables asks moment;
                  leads =
                      left-by _ asks (record { request = request; moment = moment; text = text } ∷ [])
                      (run happens mirrors service events)
                      (ap (λ (s : Service). run happens mirrors s events) begins
                      ∙ replies mirrors service.history service.workers index worker there worker.seen worker.ended
                      worker.share service.books request has.tables plan has.certified has.chosen some asks rest parts
                      named
                      has-room moment
                      (eq-eqb (length own.outcomes) (length (bytes_asked plan))
                      (length-map asks (λ (ask : Ask). ask.1) ∙ sym all)))
                      refl seen-now (λ mirror. refl)
                      (flat-push sent_for worker.ended job
                      ∙ ap (λ (old : List Sent). old ++ sent_for job) between.sent
                      ∙ ap (λ (t : List ℕ). sent ++ record { request = request; moment = moment; text = t } ∷ []) bytes)
                      asked;
                  asked = asked;
                  named = All-from_recursion (λ (ask : Ask). IsNamed mirrors ask.1) asks named;
                },
                λ full. subst (λ (s : Service). AreForRoom mirrors s events) (sym begins)
                    (replies-for-room mirrors service.history service.workers index worker there worker.seen
                    worker.ended
                    worker.share service.books request has.tables plan has.certified has.chosen some asks rest parts
                    named
                    has-room moment (full asks asked)),
              )

        -- a first part of the plan was asked for
        first-part : AsksFirst mirrors plan before.asks after.asks → HaveRoom mirrors service before after → IsDone []
        first-part asked room =
            let are = AreAsks-plan mirrors asked.first asked.outcomes asked.asked.decided in
            broke (asks_of asked.first asked.outcomes) (bytes_asked asked.rest)
            (ap bytes_asked asked.parts
            ∙ filter_map-append _ asked.first asked.rest
            ∙ ap (λ (sizes : List ℕ). sizes ++ bytes_asked asked.rest) (sym are.sizes))
            are.named asked.asked.asked room

      -- a request was replied to
      sent-reply :
          (request : Request) (moment : ℕ) (text : List ℕ) →
          IsReply (stock_of history mirrors) request moment before.asks after.asks text →
          HaveRoom mirrors service before after →
          IsDone (record { request = request; moment = moment; text = text } ∷ [])
      sent-reply request moment text reply room =
          let are = AreAsks-plan mirrors reply.plan reply.outcomes reply.asked.decided in
          let asks = asks_of reply.plan reply.outcomes in
          replied request reply.plan reply.planned asks []
          (sym are.sizes ∙ sym (append-nil (map (λ (ask : Ask). ask.0) asks)))
          are.named reply.asked.asked room reply.outcomes moment text
          (ap (λ (sizes : List ℕ). length sizes) (sym are.sizes) ∙ length-map asks (λ (ask : Ask). ask.0))
          are.by_app reply.written

      -- memory ran out
      broken : (request : Request) → HasBegun (stock_of history mirrors) request before.asks after.asks →
          HaveRoom mirrors service before after → IsDone []
      broken request (inl same) room = looked same
      broken request (inr (plan, planned, first)) room = first-part request plan planned first room

  unseen : (old new : Sight) → FindsNoEntry old new → new.seen ≡ old.seen
  unseen old new (inl same) = ap (λ (s : Sight). s.seen) same
  unseen old new (inr lost) = lost.1

  module _ (published : EntersPublished service.history before after)
      (room : HaveRoom mirrors service before after) where
    -- all is as it was
    same-progress : after ≡ before → IsDone []
    same-progress same =
        nothing (ap (λ (p : Progress). p.asks) same) (ap (λ (p : Progress). p.sight.seen) same)

    by_status : (input : List ℕ) (moment : ℕ) (kind : DeskStatus) (text : List ℕ) →
        HasStatus mirrors before input moment kind text after → IsDone (sent_with input moment kind text)
    by_status input moment status.Success text (history, enters, (request, read, reply)) =
        subst (λ (r : Result Request RequestFault). IsDone (sent_to moment text r)) (sym read)
        (sent-reply history enters (published history enters) request moment text reply room)
    by_status input moment status.BadRequest text (none, fault, same) = same-progress same
    by_status input moment status.Conflict text never = absurd never
    by_status input moment status.UnprocessableContent text never = absurd never
    by_status input moment status.ServiceUnavailable text never = absurd never

    by_call : (call : Call) → IsCall mirrors before call after → IsDone (sent_by call)
    by_call (Looks name found) (inl (history, enters, is), asked) = looked history enters
        (published history enters) asked
    by_call (Looks name found) (inr (none, is), asked) = nothing asked (unseen before.sight after.sight none)
    by_call (Shows at page) (none, same) = same-progress same
    by_call (Asks input moment (Ok answer)) called = by_status input moment answer.0 answer.1 called
    by_call (Asks input moment (Err off.Memory)) (inl same) = same-progress same
    by_call (Asks input moment (Err off.Memory)) (inr (request, read, (history, enters, begun))) =
        broken history enters (published history enters) request begun room
    by_call (Asks input moment (Err off.Closed)) (request, read, (none, asked)) =
        nothing asked (unseen before.sight after.sight none)

pub worker_calls_are_events : PlansHaveRows → WorkerCallsAreEvents
worker_calls_are_events rows mirrors service index worker before after sent call some there between called own room =
    (by_call mirrors service index worker before after sent some there between rows own room call called).0

pub lone_calls_are_for_room : PlansHaveRows → LoneCallsAreForRoom
lone_calls_are_for_room rows mirrors service index worker before after sent call some there between called own room
    alone first =
    let (added, is, granted) = first in
    let done = by_call mirrors service index worker before after sent some there between rows own room call called in (
      done.0,
      done.1
          (λ asks asked. subst (HaveNoRoom mirrors service.books)
          (append_cancel_left before.asks added asks (sym is ∙ asked))
          (no-room-first mirrors service.books before.asks added alone granted)),
    )
