-- The laws of every interleaving.
use Rattle.std.proofs.Common.{◌≡◌, ℕ, ◌≤◌, inl, inr, List, ◌++◌, length, None, sym, ap, ◌∙◌, subst}
use Rattle.std.specs.List.{All, Contains, sum_by}
use Rattle.std.specs.Option.{option_map}
use Rattle.std.proofs.lemmas.List.Elements.{All-contains_itself, All-from_recursion, Contains-append_left, Contains-append_right, recursion_from_All}
use Rattle.std.proofs.lemmas.Option.{none-some}
use Rattle.catalogue.specs.Histories.{HistoriesAreValid, HistoriesGrow, History, PrefixesAreAccepted}
use Rattle.quotes.specs.ByRows.{CertifiedRowsQuote}
use Rattle.catalogue.specs.declared.mirror.Mirror.{Mirror}
use Rattle.theorems.specs.Laws.{TrackGraphsAreGraphs}
use Rattle.theorems.specs.Events.{Event, happens, service_after}
use Rattle.theorems.specs.Jobs.{EndedJob, Job, Worker, granted_for, jobs_of}
use Rattle.theorems.specs.InterleavingLaws.{BatchesArePublishedWhole, EndsWell, IsAcceptedHistory, JobsGoByWhatWasSeen, PublishedIsAccepted, PublishedStays, RepliesAreOfOneCatalogue, SeenIsPublished, SeenNeverFalls, SharesAreOfJobs, TotalsAreWithinBudgets, batches_given}
use Rattle.theorems.specs.Services.{Service, opened}
use Rattle.theorems.proofs.KeptLemmas.{GoesOn, IsAfter, Keeps, KeepsWorker}
use Rattle.theorems.proofs.ListLemmas.{all-append, all-reads, all-weaker, zip-at, zip-reads}
use Rattle.theorems.proofs.RunLemmas.{IsRun, IsRun-events, IsRun-opened, run-append}

-- a worker without a job goes on by no fewer batches than it has seen
low-after : (worker : Worker) (number : ℕ) → worker.job ≡ None → IsAfter worker number → worker.seen ≤ number
low-after worker number idle (inl own) =
    absurd (none-some number (sym (ap (λ o. option_map (λ (job : Job). job.number) o) idle) ∙ own))
low-after worker number idle (inr low) = low

module _ (quotes : CertifiedRowsQuote) (graphs : TrackGraphsAreGraphs) (growth : HistoriesGrow)
    (prefixes : PrefixesAreAccepted) (are_valid : HistoriesAreValid) where
  after :
      (mirrors : List Mirror) (start : History) (workers : ℕ) (events : List Event) → IsAcceptedHistory start →
      IsRun mirrors events (opened mirrors start workers) (service_after happens mirrors start workers events)
  after mirrors start workers events accepted =
      IsRun-opened mirrors quotes graphs growth prefixes are_valid start workers events accepted

  -- and after more events
  further :
      (mirrors : List Mirror) (start : History) (workers : ℕ) (events more : List Event) → IsAcceptedHistory start →
      IsRun mirrors more (service_after happens mirrors start workers events)
      (service_after happens mirrors start workers (events ++ more))
  further mirrors start workers events more accepted =
      let before = service_after happens mirrors start workers events in
      subst (IsRun mirrors more before) (sym (run-append happens mirrors events more (opened mirrors start workers)))
      (IsRun-events mirrors quotes graphs growth prefixes are_valid more before
      (after mirrors start workers events accepted).keeps)

  -- what holds of each worker
  each :
      (P : Worker → Type 0) (mirrors : List Mirror) (service : Service) → Keeps mirrors service →
      ((worker : Worker) → KeepsWorker mirrors service.history worker → P worker) → All P service.workers
  each P mirrors service keeps holds =
      All-from_recursion P service.workers
      (all-weaker (KeepsWorker mirrors service.history) P service.workers holds keeps.workers)

  pub replies_are_of_one_catalogue : RepliesAreOfOneCatalogue happens
  replies_are_of_one_catalogue mirrors start workers events accepted =
      let service = service_after happens mirrors start workers events in
      each (λ (worker : Worker). All (EndsWell mirrors service.history) worker.ended) mirrors service
      (after mirrors start workers events accepted).keeps
      (λ worker kept. All-from_recursion (EndsWell mirrors service.history) worker.ended kept.ended)

  pub jobs_go_by_what_was_seen : JobsGoByWhatWasSeen happens
  jobs_go_by_what_was_seen mirrors start workers events more accepted index before later at_before at_later idle =
      let run = further mirrors start workers events more accepted in
      let goes = zip-at GoesOn (service_after happens mirrors start workers events).workers
      (service_after happens mirrors start workers (events ++ more)).workers index before later run.goes at_before
      at_later in
      record {
        later = goes.later;
        ended = goes.ended;
        follow =
            All-from_recursion (λ (ended : EndedJob). before.seen ≤ ended.job.number) goes.later
            (all-weaker (λ (ended : EndedJob). IsAfter before ended.job.number)
            (λ (ended : EndedJob). before.seen ≤ ended.job.number) goes.later
            (λ ended is. low-after before ended.job.number idle is) goes.follow);
      }

  pub seen_never_falls : SeenNeverFalls happens
  seen_never_falls mirrors start workers events more accepted index =
      zip-reads GoesOn (λ (worker : Worker). worker.seen) (service_after happens mirrors start workers events).workers
      (service_after happens mirrors start workers (events ++ more)).workers index
      (λ old new goes. goes.seen) (further mirrors start workers events more accepted).goes

  pub seen_is_published : SeenIsPublished happens
  seen_is_published mirrors start workers events accepted index =
      let service = service_after happens mirrors start workers events in
      all-reads (KeepsWorker mirrors service.history) (λ (worker : Worker). worker.seen) (length service.history)
      service.workers index
      (λ worker kept. kept.seen) (after mirrors start workers events accepted).keeps.workers

  pub totals_are_within_budgets : TotalsAreWithinBudgets happens
  totals_are_within_budgets mirrors start workers events accepted mirror =
      let run = after mirrors start workers events accepted in
      let book = run.keeps.books mirror in
      record { adds_up = book.adds_up; within = book.within; budget = run.budgets mirror }

  pub shares_are_of_jobs : SharesAreOfJobs happens
  shares_are_of_jobs mirrors start workers events accepted mirror =
      let service = service_after happens mirrors start workers events in
      each (λ (worker : Worker). worker.share mirror ≡ sum_by (granted_for mirror) (jobs_of worker)) mirrors service
      (after mirrors start workers events accepted).keeps (λ worker kept. kept.shares mirror)

  pub published_is_accepted : PublishedIsAccepted happens
  published_is_accepted mirrors start workers events accepted =
      (after mirrors start workers events accepted).keeps.accepted

  pub published_stays : PublishedStays happens
  published_stays mirrors start workers events more accepted =
      let grows = (further mirrors start workers events more accepted).grows in
      (grows.rest, grows.is)

  pub batches_are_published_whole : BatchesArePublishedWhole happens
  batches_are_published_whole mirrors start workers events accepted =
      let service = service_after happens mirrors start workers events in
      let given = start ++ batches_given events in
      let grows = (after mirrors start workers events accepted).grows in
      let itself = recursion_from_All (Contains start) start (All-contains_itself start) in
      let first =
      all-weaker (Contains start) (Contains given) start (Contains-append_left start (batches_given events)) itself in
      let added =
      all-weaker (Contains (batches_given events)) (Contains given) grows.rest
      (Contains-append_right start (batches_given events)) grows.among in
      subst (All (Contains given)) (sym grows.is)
      (All-from_recursion (Contains given) (start ++ grows.rest) (all-append (Contains given) start grows.rest first added))
