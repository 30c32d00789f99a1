-- The tasks of a service's workers are done by events, batch by batch.
use Rattle.std.proofs.Common.{◌≡◌, ℕ, zero, suc, ◌+◌, ◌<◌, ◌≤◌, inl, inr, List, [], ◌∷◌, ◌++◌, length, map, None, refl, sym, ap, ap₂, ◌∙◌, append_assoc, subst, arith}
use Rattle.std.specs.List.{AllByRecursion, AllZip, sum_by}
use Rattle.std.proofs.lemmas.List.{append-nil}
use Rattle.std.proofs.lemmas.List.Elements.{recursion_from_All}
use Rattle.catalogue.specs.declared.edit.Edit.{Edit}
use Rattle.catalogue.specs.Histories.{History}
use Rattle.mirror_ledger.specs.Asks.{Ask, granted_at}
use Rattle.mirror_ledger.specs.Tills.{AreFull}
use Rattle.publisher.specs.Beginnings.{StartsWith}
use Rattle.publisher.specs.Sights.{Sight}
use Rattle.catalogue.specs.declared.mirror.Mirror.{Mirror}
use Rattle.service_desks.specs.Workers.{Progress}
use Rattle.theorems.specs.Calls.{EntersPublished, HaveRoom, IsBetween, IsWork, Sent, WorkerCallsAreEvents, asks_in, events_of, sent_by, sent_in}
use Rattle.theorems.specs.Events.{Event, Publish, happens, run}
use Rattle.theorems.specs.Jobs.{Worker}
use Rattle.theorems.specs.InterleavingServed.{IsOfFull}
use Rattle.theorems.specs.Services.{Service, changed_at, published}
use Rattle.theorems.proofs.KeptLemmas.{IsNamed}
use Rattle.theorems.proofs.ListLemmas.{all-append, all-at, all-changed, all-parts, all-weaker}
use Rattle.theorems.proofs.ProgressLemmas.{LeadsOn, entered-begins, leads-on, same-beginning, seen-within}
use Rattle.theorems.proofs.RejectionLemmas.{work-full}
use Rattle.theorems.proofs.RunLemmas.{run-append}
use Rattle.theorems.proofs.TaskLemmas.{Chain, Given, HadNone, HasDone, IsFrom, IsLater, IsServing, IsTask, IsTask-longer, Partner, Ready, Round, Task, allowed-now, asks-now, from-now, granted-now, granted_in_all, granted_so_far, length-published, look, map-changed, partner, sent_by_all, shorter-published, shown, starts-shown, sum-balance, sum-less, sum-same, zip-both}

-- the worker is where its task is
abbrev pub IsAtTask : Task → Worker → Type 0
IsAtTask task worker = IsBetween task.now task.sent worker

-- how many calls and batches are left
abbrev pub left_of : List Task → Given → ℕ
left_of tasks given = sum_by (λ (task : Task). length task.rounds) tasks + length given

module _ (mirrors : List Mirror) (totals_left : List ℕ) (all : History) where
  -- some events first
  then-done :
      (service next : Service) (first : List Event) (tasks new : List Task) → run happens mirrors service first ≡ next →
      map (λ (task : Task). task.whole) new ≡ map (λ (task : Task). task.whole) tasks →
      ((mirror : ℕ) → sum_by (granted_in_all mirror) new ≡ sum_by (granted_in_all mirror) tasks) →
      ((mirror : ℕ) → (next.books mirror).budget ≡ (service.books mirror).budget) →
      (AllByRecursion (HadNone mirrors totals_left) tasks →
      AllByRecursion (HadNone mirrors totals_left) new × AllByRecursion (IsOfFull mirrors totals_left) first) →
      HasDone mirrors totals_left all new next → HasDone mirrors totals_left all tasks service
  then-done service next first tasks new leads wholes sums budgets rejected done = record {
    events = first ++ done.events;
    last = done.last;
    leads =
        run-append happens mirrors first done.events service
        ∙ ap (λ (s : Service). run happens mirrors s done.events) leads ∙ done.leads;
    history = done.history;
    budgets = λ mirror. done.budgets mirror ∙ budgets mirror;
    sent = done.sent ∙ wholes;
    idle = done.idle;
    totals = λ mirror. done.totals mirror ∙ sums mirror;
    rejected = λ had.
        let (others, own) = rejected had in
        all-append (IsOfFull mirrors totals_left) first done.events own (done.rejected others);
  }

  -- a task that is done
  record IsEnded (task : Task) : Type 0 where
    left : task.left ≡ task.now
    sent : task.sent ≡ task.whole

  ended : (number : ℕ) → number ≡ length all → (task : Task) → IsTask mirrors all number task → IsLater number task →
      IsEnded task
  ended number whole task is later = by_rounds task.rounds is.chain is.whole later
    where
      by_rounds : (rounds : List Round) → Chain mirrors task.now rounds task.left →
          task.sent ++ sent_by_all rounds ≡ task.whole → IsFrom (number + 1) rounds → IsEnded task
      by_rounds [] chain sums later = record { left = chain; sent = sym (append-nil task.sent) ∙ sums }
      by_rounds (round ∷ rest) chain sums later =
          let low = is.low in
          let within = seen-within task.now round.after (leads-on mirrors task.now round.after round.call chain.0) all
          (allowed-now mirrors all round.after rest task.left chain.1 is.allowed) (omega arith) in
          absurd (omega arith)

  all-ended : (number : ℕ) → number ≡ length all → (tasks : List Task) →
      AllByRecursion (IsTask mirrors all number) tasks →
      AllByRecursion (IsLater number) tasks → AllByRecursion IsEnded tasks
  all-ended number whole [] each later = tt
  all-ended number whole (task ∷ tasks) each later =
      (ended number whole task each.0 later.0, all-ended number whole tasks each.1 later.1)

  sent-all : (tasks : List Task) (workers : List Worker) → AllZip IsAtTask tasks workers →
      AllByRecursion IsEnded tasks →
      map sent_in workers ≡ map (λ (task : Task). task.whole) tasks
  sent-all [] [] zipped ends = refl
  sent-all [] (worker ∷ workers) zipped ends = absurd zipped
  sent-all (task ∷ tasks) [] zipped ends = absurd zipped
  sent-all (task ∷ tasks) (worker ∷ workers) zipped ends =
      ap₂ (λ (first : List Sent) (rest : List (List Sent)). first ∷ rest) (zipped.0.sent ∙ ends.0.sent)
      (sent-all tasks workers zipped.1 ends.1)

  idle-all : (tasks : List Task) (workers : List Worker) → AllZip IsAtTask tasks workers →
      AllByRecursion (λ (worker : Worker). worker.job ≡ None) workers
  idle-all [] [] zipped = tt
  idle-all [] (worker ∷ workers) zipped = absurd zipped
  idle-all (task ∷ tasks) [] zipped = absurd zipped
  idle-all (task ∷ tasks) (worker ∷ workers) zipped = (zipped.0.idle, idle-all tasks workers zipped.1)

  -- nothing is left to do
  finished : (service : Service) (tasks : List Task) → IsServing mirrors all tasks [] service →
      AllByRecursion (IsLater (length service.history)) tasks → HasDone mirrors totals_left all tasks service
  finished service tasks serving later =
      let whole = ap (λ (h : History). length h) serving.shows in
      let ends = all-ended (length service.history) whole tasks serving.each later in
      record {
        events = [];
        last = service;
        leads = refl;
        history = serving.shows;
        budgets = λ mirror. refl;
        sent = sent-all tasks service.workers serving.workers ends;
        idle = idle-all tasks service.workers serving.workers;
        totals = λ mirror.
            serving.totals mirror
            ∙ sum-same (granted_so_far mirror) (granted_in_all mirror) tasks
            (all-weaker IsEnded (λ (task : Task). granted_so_far mirror task ≡ granted_in_all mirror task) tasks
            (λ task is. ap (λ (p : Progress). granted_at mirror p.asks) (sym is.left)) ends);
        rejected = λ had. tt;
      }

  module _ (some : 1 ≤ length mirrors) (calls : WorkerCallsAreEvents) (service : Service) (tasks : List Task)
      (given : Given) (serving : IsServing mirrors all tasks given service) where
    abbrev number : ℕ
    number = length service.history

    -- one call of a worker
    module _ (ready : Ready number tasks) where
      abbrev new : Task
      new = record {
        now = ready.round.after;
        sent = ready.task.sent ++ sent_by ready.round.call;
        rounds = ready.rest;
        left = ready.task.left;
        whole = ready.task.whole;
      }

      abbrev new_tasks : List Task
      new_tasks = changed_at ready.index (λ (task : Task). new) tasks

      is-task : IsTask mirrors all number ready.task
      is-task = all-at (IsTask mirrors all number) tasks ready.index ready.task ready.there serving.each

      chain : Chain mirrors ready.task.now (ready.round ∷ ready.rest) ready.task.left
      chain = subst (λ (rs : List Round). Chain mirrors ready.task.now rs ready.task.left) ready.is is-task.chain

      on : LeadsOn ready.task.now ready.round.after
      on = leads-on mirrors ready.task.now ready.round.after ready.round.call chain.0

      from : number ≤ ready.round.after.sight.seen
      from = subst (IsFrom number) ready.is is-task.from

      new-is : IsTask mirrors all number new
      new-is = record {
        chain = chain.1;
        allowed = is-task.allowed;
        low = ready.low;
        from = from-now mirrors number ready.round.after ready.rest ready.task.left chain.1 from;
        whole =
            append_assoc ready.task.sent (sent_by ready.round.call) (sent_by_all ready.rest)
            ∙ subst (λ (rs : List Round). ready.task.sent ++ sent_by_all rs ≡ ready.task.whole) ready.is is-task.whole;
      }

      each-new : AllByRecursion (IsTask mirrors all number) new_tasks
      each-new =
          all-changed (IsTask mirrors all number) (λ (task : Task). new) ready.index tasks (λ task there is. new-is)
          serving.each

      sums-all : (mirror : ℕ) → sum_by (granted_in_all mirror) new_tasks ≡ sum_by (granted_in_all mirror) tasks
      sums-all mirror =
          let balance = sum-balance (granted_in_all mirror) new ready.task ready.index tasks ready.there in
          omega arith

      -- what was granted so far, with this call
      sums-new : (mirror : ℕ) →
          sum_by (granted_so_far mirror) new_tasks + granted_at mirror ready.task.now.asks
          ≡ sum_by (granted_so_far mirror) tasks + granted_at mirror ready.round.after.asks
      sums-new mirror = sum-balance (granted_so_far mirror) new ready.task ready.index tasks ready.there

      room : HaveRoom mirrors service ready.task.now ready.round.after
      room mirror below =
          let total = serving.totals mirror in
          let balance = sums-new mirror in
          let same = sums-all mirror in
          let within = serving.within mirror below in
          let less =
          sum-less (granted_so_far mirror) (granted_in_all mirror) new_tasks
          (all-weaker (IsTask mirrors all number)
          (λ (task : Task). granted_so_far mirror task ≤ granted_in_all mirror task) new_tasks
          (λ task is. granted-now mirrors mirror task.now task.rounds task.left is.chain) each-new) in
          omega arith

      enters-published : EntersPublished service.history ready.task.now ready.round.after
      enters-published history enters =
          let seen = ap (λ (s : Sight). s.seen) enters.left in
          let low = ready.low in
          let high = from in
          same-beginning all history service.history
          (entered-begins ready.task.now ready.round.after on all history
          (allowed-now mirrors all ready.round.after ready.rest ready.task.left chain.1 is-task.allowed) enters)
          (subst (λ (h : History). StartsWith h service.history) serving.shows (starts-shown service.history given))
          (omega arith)

      own : Partner IsAtTask ready.task ready.index service.workers
      own = partner IsAtTask ready.task ready.index tasks service.workers ready.there serving.workers

      work : IsWork mirrors service ready.index ready.task.now ready.round.after
          (ready.task.sent ++ sent_by ready.round.call)
      work =
          calls mirrors service ready.index own.item ready.task.now ready.round.after ready.task.sent ready.round.call
          some own.there own.is chain.0 enters-published room

      abbrev events : List Event
      events = events_of mirrors ready.index work.work

      abbrev next : Service
      next = run happens mirrors service events

      next-serving : IsServing mirrors all new_tasks given next
      next-serving = record {
        workers =
            subst (λ (ws : List Worker). AllZip IsAtTask new_tasks ws) (sym work.leads.workers)
            (zip-both IsAtTask new work.leads.worker ready.index tasks service.workers work.leads.between
            serving.workers);
        totals = λ mirror.
            let after = work.leads.totals mirror in
            let total = serving.totals mirror in
            let balance = sums-new mirror in
            omega arith;
        within = λ mirror below.
            let within = serving.within mirror below in
            let same = sums-all mirror in
            let budget = work.leads.budgets mirror in
            omega arith;
        each =
            subst (λ (h : History). AllByRecursion (IsTask mirrors all (length h)) new_tasks) (sym work.leads.history)
            each-new;
        shows = ap (λ (h : History). shown h given) work.leads.history ∙ serving.shows;
      }

      fewer : left_of new_tasks given + 1 ≡ left_of tasks given
      fewer =
          let balance = sum-balance (λ (task : Task). length task.rounds) new ready.task ready.index tasks ready.there
          in
          let long = ap (λ (rs : List Round). length rs) ready.is in
          omega arith

      -- what it asks for is of all that its worker asks for
      rejected-own : AllByRecursion (HadNone mirrors totals_left) tasks →
          AllByRecursion (HadNone mirrors totals_left) new_tasks × AllByRecursion (IsOfFull mirrors totals_left) events
      rejected-own had =
          let Had : Ask → Type 0 = λ ask. ask.1 ≡ None → AreFull mirrors totals_left ask.0 in
          let here = all-at (HadNone mirrors totals_left) tasks ready.index ready.task ready.there had in
          let (more, is) = asks-now mirrors ready.round.after ready.rest ready.task.left chain.1 in
          let so_far = (all-parts Had ready.round.after.asks more (subst (AllByRecursion Had) is here)).0 in
          let own = (all-parts Had ready.task.now.asks (asks_in work.work) (subst (AllByRecursion Had) work.asked so_far)).1 in (
            all-changed (HadNone mirrors totals_left) (λ (task : Task). new) ready.index tasks (λ task there was. here) had,
            work-full mirrors totals_left ready.index work.work
                (recursion_from_All (λ (ask : Ask). IsNamed mirrors ask.1) (asks_in work.work) work.named) own,
          )

      done-round : HasDone mirrors totals_left all new_tasks next → HasDone mirrors totals_left all tasks service
      done-round done =
          then-done service next events tasks new_tasks refl
          (map-changed (λ (task : Task). task.whole) new ready.task ready.index tasks ready.there refl) sums-all
          work.leads.budgets rejected-own done

  -- a batch is given
  module _ (service : Service) (tasks : List Task) (batch : ℕ × List Edit) (more : Given)
      (serving : IsServing mirrors all tasks (batch ∷ more) service)
      (later : AllByRecursion (IsLater (length service.history)) tasks) where
    abbrev longer : Service
    longer = record service { history = published service.history batch.0 batch.1 }

    longer-serving : IsServing mirrors all tasks more longer
    longer-serving = record {
      workers = serving.workers;
      totals = serving.totals;
      within = serving.within;
      each = each-longer tasks serving.each later;
      shows = serving.shows;
    }
      where
        each-longer : (items : List Task) → AllByRecursion (IsTask mirrors all (length service.history)) items →
            AllByRecursion (IsLater (length service.history)) items →
            AllByRecursion (IsTask mirrors all (length longer.history)) items
        each-longer [] each after = tt
        each-longer (task ∷ items) each after = (
          IsTask-longer mirrors all (length service.history) (length longer.history)
              (shorter-published service.history batch.0 batch.1)
              (length-published service.history batch.0 batch.1) task after.0 each.0,
          each-longer items each.1 after.1,
        )

    done-batch : HasDone mirrors totals_left all tasks longer → HasDone mirrors totals_left all tasks service
    done-batch done =
        then-done service longer (Publish batch.0 batch.1 ∷ []) tasks tasks refl refl (λ mirror. refl)
        (λ mirror. refl) (λ had. (had, (tt, tt))) done

  pub serves : 1 ≤ length mirrors → WorkerCallsAreEvents → (fuel : ℕ) (service : Service) (tasks : List Task)
      (given : Given) →
      left_of tasks given < fuel → IsServing mirrors all tasks given service → HasDone mirrors totals_left all tasks service
  serves some calls zero service tasks given short serving = absurd (omega arith)
  serves some calls (suc fuel) service tasks [] short serving = elim (look (length service.history) tasks) [
    | inl ready ↦
        let less = fewer some calls service tasks [] serving ready in
        done-round some calls service tasks [] serving ready
        (serves some calls fuel (next some calls service tasks [] serving ready)
        (new_tasks some calls service tasks [] serving ready) [] (omega arith)
        (next-serving some calls service tasks [] serving ready))
    | inr later ↦ finished service tasks serving later
  ]
  serves some calls (suc fuel) service tasks (batch ∷ more) short serving = elim (look (length service.history) tasks) [
    | inl ready ↦
        let less = fewer some calls service tasks (batch ∷ more) serving ready in
        done-round some calls service tasks (batch ∷ more) serving ready
        (serves some calls fuel (next some calls service tasks (batch ∷ more) serving ready)
        (new_tasks some calls service tasks (batch ∷ more) serving ready) (batch ∷ more) (omega arith)
        (next-serving some calls service tasks (batch ∷ more) serving ready))
    | inr later ↦
        done-batch service tasks batch more serving later
        (serves some calls fuel (longer service tasks batch more serving later) tasks more (omega arith)
        (longer-serving service tasks batch more serving later))
  ]
