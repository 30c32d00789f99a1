-- Each event keeps what holds of a service, and its workers go on.
use Rattle.std.proofs.Common.{◌≡◌, ℕ, ◌+◌, ◌≤◌, ◌⊎◌, inl, inr, ◌&&◌, max, true, eqb, ltb, List, [], ◌∷◌, ◌++◌, length, None, Some, Result, Ok, Err, refl, sym, ap, ◌∙◌, subst, arith}
use Rattle.std.specs.List.{AllZip, slice_get, sum_by}
use Rattle.std.specs.Result.{is_ok}
use Rattle.std.proofs.lemmas.Bool.{and_parts, cond_both, eqb-true, leb-true, ltb-true}
use Rattle.std.proofs.lemmas.List.{length-append}
use Rattle.std.proofs.lemmas.Option.{same_Some}
use Rattle.catalogue.specs.Batches.{outcome, then_run}
use Rattle.catalogue.specs.declared.edit.Edit.{Edit}
use Rattle.catalogue.specs.declared.fault.Refused.{Refused}
use Rattle.catalogue.specs.Histories.{HistoriesAreValid, HistoriesGrow, History, PrefixesAreAccepted}
use Rattle.editions.specs.Editions.{max_batches, outcome_after}
use Rattle.mirror_ledger.specs.Asks.{booked}
use Rattle.mirror_books.specs.Budgets.{Account}
use Rattle.quotes.specs.ByRows.{CertifiedRowsQuote}
use Rattle.catalogue.specs.declared.content.App.{App}
use Rattle.catalogue.specs.declared.mirror.Mirror.{Mirror}
use Rattle.theorems.specs.Laws.{TrackGraphsAreGraphs}
use Rattle.theorems.specs.Events.{Drop, Enter, Event, Grant, Learn, Plan, Publish, Raise, Reject, Render, asks, decided, granted, happens, moved, rejected}
use Rattle.theorems.specs.Jobs.{Worker}
use Rattle.theorems.specs.InterleavingLaws.{batch_given, budget_after}
use Rattle.theorems.specs.Moves.{after_drop, after_entry, after_grant, after_news, after_plan, after_rejection, after_rendering, is_asking, with_pending}
use Rattle.theorems.specs.Services.{Service, has_room, is_published, raised_budget, with_budget}
use Rattle.theorems.proofs.KeptLemmas.{GoesOn, GoesOn-same, Keeps, KeepsWorker, KeepsWorker-longer, LeadsTo-content_at}
use Rattle.theorems.proofs.ListLemmas.{Passes-option_map_or, all-at, all-changed, all-weaker, sum-changed, zip-changed, zip-itself}
use Rattle.theorems.proofs.MoveLemmas.{IsMove, drop, entry, grant, news, plan, rejection, rendering}

-- the history is longer by what the event gave, or as it was
abbrev pub Extends : Event → History → History → Type 0
Extends event old new =
    (new ≡ old) ⊎ ((batch : List Edit) × (batch_given event ≡ batch ∷ []) × (new ≡ old ++ batch ∷ []))

-- what an event makes of a service
pub record IsStep (mirrors : List Mirror) (event : Event) (old new : Service) : Type 0 where
  pub keeps : Keeps mirrors new
  pub goes : AllZip GoesOn old.workers new.workers
  pub history : Extends event old.history new.history
  pub budgets : (mirror : ℕ) → (new.books mirror).budget ≡ budget_after mirror event (old.books mirror).budget

-- an accepted batch makes a content
pub Made : {A E : Type 0} (result : Result A E) → is_ok result ≡ true → (made : A) × (result ≡ Ok made)
Made (Ok made) is = (made, refl)
Made (Err fault) is = cc

-- a grant with room stays within each budget
within-grant :
    (books : ℕ → Account) (mirror granting bytes : ℕ) →
    (books granting).total + bytes ≤ (books granting).budget → (books mirror).total ≤ (books mirror).budget →
    (books mirror).total + booked mirror bytes (Some granting) ≤ (books mirror).budget
within-grant books mirror granting bytes room within =
    cond_both (eqb granting mirror) bytes 0 (λ more. (books mirror).total + more ≤ (books mirror).budget)
    (λ same. subst (λ m. (books m).total + bytes ≤ (books m).budget) (eqb-true granting mirror same) room)
    (λ other. omega arith)

-- no budget falls
raised-rises : (raised bytes mirror budget : ℕ) → budget ≤ raised_budget raised bytes mirror budget
raised-rises raised bytes mirror budget =
    cond_both (eqb raised mirror) (max budget bytes) budget (λ new. budget ≤ new) (λ same. omega arith)
    (λ other. omega arith)

module _ (mirrors : List Mirror) (service : Service) (keeps : Keeps mirrors service) where
  -- nothing happens
  unchanged :
      (event : Event) → ((mirror budget : ℕ) → budget ≡ budget_after mirror event budget) → IsStep mirrors event
      service service
  unchanged event same =
      record {
        keeps = keeps;
        goes = zip-itself GoesOn service.workers GoesOn-same;
        history = inl refl;
        budgets = λ mirror. same mirror (service.books mirror).budget;
      }

  -- a worker moves, and it is granted nothing
  moves :
      (event : Event) (index : ℕ) (move : Worker → Worker) →
      ((mirror budget : ℕ) → budget ≡ budget_after mirror event budget) →
      ((worker : Worker) → slice_get service.workers index ≡ Some worker → KeepsWorker mirrors service.history worker →
      IsMove mirrors service.history (λ mirror. 0) worker (move worker)) →
      IsStep mirrors event service (moved index move service)
  moves event index move same steps =
      record {
        keeps = record {
          accepted = keeps.accepted;
          workers =
              all-changed (KeepsWorker mirrors service.history) move index service.workers
              (λ worker there kept. (steps worker there kept).kept) keeps.workers;
          books = λ mirror.
              let book = keeps.books mirror in
              record { adds_up = sym (sum-all mirror); within = book.within };
        };
        goes =
            zip-changed (KeepsWorker mirrors service.history) GoesOn move index service.workers GoesOn-same
            (λ worker there kept. (steps worker there kept).goes) keeps.workers;
        history = inl refl;
        budgets = λ mirror. same mirror (service.books mirror).budget;
      }
    where
      sum-all : (mirror : ℕ) →
          sum_by (λ (worker : Worker). worker.share mirror) (moved index move service).workers
          ≡ (service.books mirror).total
      sum-all mirror =
          let old = (keeps.books mirror).adds_up in
          let new =
          sum-changed (λ (worker : Worker). worker.share mirror) move 0 index service.workers
          (λ worker there.
          (steps worker there (all-at (KeepsWorker mirrors service.history) service.workers index worker there
          keeps.workers)).shares mirror)
          (λ none. refl) in
          omega arith

  -- a mirror grants bytes to a worker that asks for them
  grants :
      (index granting bytes : ℕ) →
      asks mirrors service index granting bytes ≡ true → has_room (service.books granting) bytes ≡ true →
      IsStep mirrors (Grant index granting bytes) service (granted index granting bytes service)
  grants index granting bytes asking room =
      let history = service.history in
      let found = Passes-option_map_or (is_asking mirrors granting bytes) (slice_get service.workers index) asking in
      let fits = leb-true ((service.books granting).total + bytes) (service.books granting).budget room in
      let more = λ (mirror : ℕ). booked mirror bytes (Some granting) in
      let steps = λ (worker : Worker) (there : slice_get service.workers index ≡ Some worker)
      (kept : KeepsWorker mirrors history worker).
      grant mirrors history worker kept granting bytes
      (subst (λ (w : Worker). is_asking mirrors granting bytes w ≡ true)
      (same_Some found.item worker (sym found.is ∙ there)) found.passed) in
      record {
        keeps = record {
          accepted = keeps.accepted;
          workers =
              all-changed (KeepsWorker mirrors history) (after_grant granting bytes) index service.workers
              (λ worker there kept. (steps worker there kept).kept) keeps.workers;
          books = λ mirror.
              let book = keeps.books mirror in
              record {
                adds_up =
                    ap (λ n. n + more mirror) book.adds_up
                    ∙ sym (sum-changed (λ (worker : Worker). worker.share mirror) (after_grant granting bytes)
                    (more mirror) index service.workers
                    (λ worker there. refl)
                    (λ none. absurd (let clash : None ≡ Some found.item = sym none ∙ found.is in cc)));
                within = within-grant service.books mirror granting bytes fits book.within;
              };
        };
        goes =
            zip-changed (KeepsWorker mirrors history) GoesOn (after_grant granting bytes) index service.workers
            GoesOn-same
            (λ worker there kept. (steps worker there kept).goes) keeps.workers;
        history = inl refl;
        budgets = λ mirror. refl;
      }

  -- or rejects them
  rejects :
      (event : Event) → ((mirror budget : ℕ) → budget ≡ budget_after mirror event budget) →
      (index rejecting bytes : ℕ) → asks mirrors service index rejecting bytes ≡ true →
      IsStep mirrors event service (rejected mirrors index rejecting service)
  rejects event same index rejecting bytes asking =
      let found = Passes-option_map_or (is_asking mirrors rejecting bytes) (slice_get service.workers index) asking in
      moves event index (with_pending (after_rejection mirrors rejecting)) same
      (λ worker there kept.
      rejection mirrors service.history worker kept rejecting bytes
      (subst (λ (w : Worker). is_asking mirrors rejecting bytes w ≡ true)
      (same_Some found.item worker (sym found.is ∙ there)) found.passed))

  -- a mirror's budget is raised
  raises : (raised bytes : ℕ) → IsStep mirrors (Raise raised bytes) service
      (record service { books = with_budget service.books raised bytes })
  raises raised bytes =
      record {
        keeps = record {
          accepted = keeps.accepted;
          workers = keeps.workers;
          books = λ mirror.
              let book = keeps.books mirror in
              let low = book.within in
              let high = raised-rises raised bytes mirror (service.books mirror).budget in
              record { adds_up = book.adds_up; within = omega arith };
        };
        goes = zip-itself GoesOn service.workers GoesOn-same;
        history = inl refl;
        budgets = λ mirror. refl;
      }

  module _ (quotes : CertifiedRowsQuote) (graphs : TrackGraphsAreGraphs) (growth : HistoriesGrow)
      (prefixes : PrefixesAreAccepted) (are_valid : HistoriesAreValid) where
    -- a batch is published
    publishes :
        (known : ℕ) (batch : List Edit) → is_published service.history known batch ≡ true →
        IsStep mirrors (Publish known batch) service (record service { history = service.history ++ batch ∷ [] })
    publishes known batch test =
        let history = service.history in
        let old = keeps.accepted in
        let some = old.some in
        let parts = and_parts (eqb known (length history))
        (ltb (length history) max_batches && is_ok (outcome_after history batch)) test in
        let rest = and_parts (ltb (length history) max_batches) (is_ok (outcome_after history batch)) parts.1 in
        let room = ltb-true (length history) max_batches rest.0 in
        let made = Made (outcome batch old.content)
        (subst (λ (r : Result (List App) Refused). is_ok (then_run (outcome batch) r) ≡ true) old.led rest.1) in
        let sized = length-append history (batch ∷ []) in
        record {
          keeps = record {
            accepted = record {
              content = made.0;
              led = growth history batch old.content made.0 old.led made.1;
              some = omega arith;
              few = omega arith;
            };
            workers =
                all-weaker (KeepsWorker mirrors history) (KeepsWorker mirrors (history ++ batch ∷ [])) service.workers
                (KeepsWorker-longer mirrors history (batch ∷ [])) keeps.workers;
            books = λ mirror.
                let book = keeps.books mirror in
                record { adds_up = book.adds_up; within = book.within };
          };
          goes = zip-itself GoesOn service.workers GoesOn-same;
          history = inr (batch, refl, refl);
          budgets = λ mirror. refl;
        }

    pub step : (event : Event) → IsStep mirrors event service (happens mirrors service event)
    step (Publish known batch) =
        cond_both (is_published service.history known batch) (service.history ++ batch ∷ []) service.history
        (λ (h : History). IsStep mirrors (Publish known batch) service (record service { history = h }))
        (publishes known batch) (λ test. unchanged (Publish known batch) (λ mirror budget. refl))
    step (Enter index) =
        moves (Enter index) index (after_entry (length service.history)) (λ mirror budget. refl)
        (λ worker there kept. entry mirrors service.history worker kept keeps.accepted.some)
    step (Learn index number) =
        moves (Learn index number) index (after_news (length service.history) number) (λ mirror budget. refl)
        (λ worker there kept. news mirrors service.history worker kept number)
    step (Plan index request tables) =
        moves (Plan index request tables) index (after_plan service.history request tables) (λ mirror budget. refl)
        (λ worker there kept. plan mirrors service.history worker kept quotes graphs are_valid request tables)
    step (Grant index mirror bytes) =
        cond_both (asks mirrors service index mirror bytes) (decided mirrors index mirror bytes service) service
        (IsStep mirrors (Grant index mirror bytes) service)
        (λ asking.
        cond_both (has_room (service.books mirror) bytes) (granted index mirror bytes service)
        (rejected mirrors index mirror service)
        (IsStep mirrors (Grant index mirror bytes) service)
        (grants index mirror bytes asking)
        (λ room. rejects (Grant index mirror bytes) (λ mirror budget. refl) index mirror bytes asking))
        (λ test. unchanged (Grant index mirror bytes) (λ mirror budget. refl))
    step (Reject index mirror bytes) =
        cond_both (asks mirrors service index mirror bytes) (rejected mirrors index mirror service) service
        (IsStep mirrors (Reject index mirror bytes) service)
        (rejects (Reject index mirror bytes) (λ mirror budget. refl) index mirror bytes)
        (λ test. unchanged (Reject index mirror bytes) (λ mirror budget. refl))
    step (Render index moment) =
        moves (Render index moment) index (after_rendering mirrors service.history moment) (λ mirror budget. refl)
        (λ worker there kept.
        rendering mirrors service.history worker kept
        (λ number. LeadsTo-content_at prefixes service.history number keeps.accepted.content keeps.accepted.led) moment)
    step (Drop index) =
        moves (Drop index) index after_drop (λ mirror budget. refl)
        (λ worker there kept. drop mirrors service.history worker kept)
    step (Raise mirror bytes) = raises mirror bytes
