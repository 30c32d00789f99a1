-- What holds after a list of events, of each machine step in turn.
use Rattle.std.proofs.Common.{◌≡◌, ℕ, zero, suc, inl, inr, List, [], ◌∷◌, ◌++◌, length, replicate, refl, sym, ap, ◌∙◌, append_assoc, subst, arith}
use Rattle.std.specs.List.{AllByRecursion, AllZip, Contains, sum_by}
use Rattle.std.proofs.lemmas.List.{append-nil}
use Rattle.std.proofs.lemmas.List.Elements.{Contains-append_left, Contains-append_right, Contains-push}
use Rattle.std.proofs.lemmas.List.Sums.{sum_by-cons}
use Rattle.catalogue.specs.declared.edit.Edit.{Edit}
use Rattle.catalogue.specs.Histories.{HistoriesAreValid, HistoriesGrow, History, PrefixesAreAccepted}
use Rattle.quotes.specs.ByRows.{CertifiedRowsQuote}
use Rattle.catalogue.specs.declared.mirror.Mirror.{Mirror}
use Rattle.theorems.specs.Laws.{TrackGraphsAreGraphs}
use Rattle.theorems.specs.Events.{Event, Machine, happens, run, service_after}
use Rattle.theorems.specs.Jobs.{Worker, new_worker}
use Rattle.theorems.specs.InterleavingLaws.{IsAcceptedHistory, batch_given, batches_given, budget_by}
use Rattle.theorems.specs.Services.{Service, opened}
use Rattle.theorems.proofs.EventLemmas.{Extends, IsStep, step}
use Rattle.theorems.proofs.KeptLemmas.{GoesOn, GoesOn-same, GoesOn-through, Keeps, KeepsWorker}
use Rattle.theorems.proofs.ListLemmas.{all-append, all-weaker, zip-itself, zip-through}

-- a list of events in two parts
pub run-append :
    (machine : Machine) (mirrors : List Mirror) (events more : List Event) (service : Service) →
    run machine mirrors service (events ++ more) ≡ run machine mirrors (run machine mirrors service events) more
run-append machine mirrors [] more service = refl
run-append machine mirrors (event ∷ events) more service = run-append machine mirrors events more
    (machine mirrors service event)

-- the batches that were added to a history are some of those that were given
pub record Grows (given : List (List Edit)) (old new : History) : Type 0 where
  pub rest : History
  pub is : new ≡ old ++ rest
  pub among : AllByRecursion (Contains given) rest

Grows-Extends : (event : Event) (old new : History) → Extends event old new → Grows (batch_given event) old new
Grows-Extends event old new (inl same) = record { rest = []; is = same ∙ sym (append-nil old); among = tt }
Grows-Extends event old new (inr longer) =
    record {
      rest = longer.0 ∷ [];
      is = longer.2;
      among = (
        subst (λ (given : List (List Edit)). Contains given longer.0) (sym longer.1)
            (Contains-push [] longer.0),
        tt,
      );
    }

Grows-through :
    (first second : List (List Edit)) (old middle new : History) →
    Grows first old middle → Grows second middle new → Grows (first ++ second) old new
Grows-through first second old middle new one two =
    record {
      rest = one.rest ++ two.rest;
      is = two.is ∙ ap (λ (h : History). h ++ two.rest) one.is ∙ append_assoc old one.rest two.rest;
      among =
          all-append (Contains (first ++ second)) one.rest two.rest
          (all-weaker (Contains first) (Contains (first ++ second)) one.rest (Contains-append_left first second)
          one.among)
          (all-weaker (Contains second) (Contains (first ++ second)) two.rest (Contains-append_right first second)
          two.among);
    }

-- what a list of events makes of a service
pub record IsRun (mirrors : List Mirror) (events : List Event) (old new : Service) : Type 0 where
  pub keeps : Keeps mirrors new
  pub goes : AllZip GoesOn old.workers new.workers
  pub grows : Grows (batches_given events) old.history new.history
  pub budgets : (mirror : ℕ) → (new.books mirror).budget ≡ budget_by mirror events (old.books mirror).budget

IsRun-then :
    (mirrors : List Mirror) (event : Event) (events : List Event) (old middle new : Service) →
    IsStep mirrors event old middle → IsRun mirrors events middle new → IsRun mirrors (event ∷ events) old new
IsRun-then mirrors event events old middle new first rest =
    record {
      keeps = rest.keeps;
      goes =
          zip-through GoesOn old.workers middle.workers new.workers
          (λ x y z one two. GoesOn-through x y one z two) first.goes rest.goes;
      grows =
          Grows-through (batch_given event) (batches_given events) old.history middle.history new.history
          (Grows-Extends event old.history middle.history first.history) rest.grows;
      budgets = λ mirror. rest.budgets mirror ∙ ap (budget_by mirror events) (first.budgets mirror);
    }

module _ (mirrors : List Mirror) (quotes : CertifiedRowsQuote) (graphs : TrackGraphsAreGraphs)
    (growth : HistoriesGrow) (prefixes : PrefixesAreAccepted) (are_valid : HistoriesAreValid) where
  pub IsRun-events :
      (events : List Event) (service : Service) → Keeps mirrors service → IsRun mirrors events service
      (run happens mirrors service events)
  IsRun-events [] service keeps =
      record {
        keeps = keeps;
        goes = zip-itself GoesOn service.workers GoesOn-same;
        grows = record { rest = []; is = sym (append-nil service.history); among = tt };
        budgets = λ mirror. refl;
      }
  IsRun-events (event ∷ events) service keeps =
      let next = happens mirrors service event in
      let first = step mirrors service keeps quotes graphs growth prefixes are_valid event in
      IsRun-then mirrors event events service next (run happens mirrors next events) first
      (IsRun-events events next first.keeps)

  -- at the opening
  pub Keeps-opened : (start : History) (workers : ℕ) → IsAcceptedHistory start → Keeps mirrors
      (opened mirrors start workers)
  Keeps-opened start workers accepted =
      record {
        accepted = accepted;
        workers = all_new workers;
        books = λ mirror. record { adds_up = sym (no_shares mirror workers); within = omega arith };
      }
    where
      all_new : (count : ℕ) → AllByRecursion (KeepsWorker mirrors start) (replicate count (new_worker (length start)))
      all_new zero = tt
      all_new (suc count) =
          (record { seen = omega arith; job = tt; ended = tt; shares = λ mirror. refl }, all_new count)

      no_shares : (mirror count : ℕ) → sum_by (λ (worker : Worker). worker.share mirror)
          (replicate count (new_worker (length start))) ≡ 0
      no_shares mirror zero = refl
      no_shares mirror (suc count) =
          let rest = no_shares mirror count in
          let whole = sum_by-cons (λ (worker : Worker). worker.share mirror) (new_worker (length start))
          (replicate count (new_worker (length start))) in
          omega arith

  pub IsRun-opened :
      (start : History) (workers : ℕ) (events : List Event) → IsAcceptedHistory start →
      IsRun mirrors events (opened mirrors start workers) (service_after happens mirrors start workers events)
  IsRun-opened start workers events accepted =
      IsRun-events events (opened mirrors start workers) (Keeps-opened start workers accepted)
