-- Each run of a service is a run of the machine: all raises first, then batch by batch the calls of each worker.
use Rattle.std.proofs.Common.{◌≡◌, ℕ, zero, suc, ◌+◌, ◌<◌, ◌≤◌, true, List, [], ◌∷◌, ◌++◌, length, map, replicate, take, Option, None, refl, sym, ap, ap₂, ◌∙◌, subst, arith}
use Rattle.std.specs.List.{All, AllByRecursion, AllZip, flat_map, sum_by}
use Rattle.std.specs.Prelude.{slice_index}
use Rattle.std.proofs.lemmas.Bool.{false≢true}
use Rattle.std.proofs.lemmas.List.Elements.{All-from_recursion, recursion_from_All}
use Rattle.std.proofs.lemmas.List.Sums.{sum_by-cons}
use Rattle.catalogue.specs.Histories.{History}
use Rattle.http_desks.specs.Calls.{Call, Leads}
use Rattle.mirror_ledger.specs.Asks.{Ask, granted_at}
use Rattle.mirror_books.specs.Budgets.{Account}
use Rattle.mirror_ledger.specs.Named.{budget_at}
use Rattle.mirror_ledger.specs.Tills.{AreFull, granted_by}
use Rattle.publisher.specs.Sights.{fresh}
use Rattle.catalogue.specs.declared.mirror.Mirror.{Mirror}
use Rattle.service_desks.specs.Operators.{IsCall as IsOperatorCall}
use Rattle.service_desks.specs.Served.{IsServed, IsWorked, Proceedings}
use Rattle.service_desks.specs.States.{State, Store}
use Rattle.service_desks.specs.Workers.{IsCall, Progress}
use Rattle.theorems.specs.Calls.{Sent, WorkerCallsAreEvents, sent_by}
use Rattle.theorems.specs.Events.{Drop, Enter, Event, Grant, Learn, Plan, Publish, Raise, Reject, Render, happens, run, service_after}
use Rattle.theorems.specs.Jobs.{Worker, new_worker}
use Rattle.theorems.specs.InterleavingServed.{IsInterleaved, IsDone, IsOfFull, RunsAreInterleavings}
use Rattle.theorems.specs.Services.{Service, opened, opened_book, present, with_budget, with_budgets_of}
use Rattle.theorems.specs.Ties.{IsDueAfter, is_of_operator, state_of}
use Rattle.theorems.proofs.BatchLemmas.{IsAtTask, left_of, serves}
use Rattle.theorems.proofs.ListLemmas.{all-append}
use Rattle.theorems.proofs.OperatorLemmas.{length-present, operator_calls_are_events}
use Rattle.theorems.proofs.PresentLemmas.{budget_at-present, present-opened, with_budgets_of-same}
use Rattle.theorems.proofs.RunLemmas.{run-append}
use Rattle.theorems.proofs.TaskLemmas.{Chain, Given, HadNone, HasDone, IsServing, IsTask, Round, Task, from-now, granted_in_all, granted_so_far, sent_by_all, shown}

-- an event of an operator
abbrev IsOwn : Event → Type 0
IsOwn event = is_of_operator event ≡ true

-- the events of an operator's calls
record HasEvents (mirrors : List Mirror) (service : Service) (left : State) : Type 0 where
  events : List Event
  own : AllByRecursion IsOwn events
  leaves : state_of mirrors (run happens mirrors service events) left.store ≡ left

operated : (mirrors : List Mirror) (calls : List Call) (service : Service) (store : Store) (left : State) →
    IsDueAfter service.history store → Leads IsOperatorCall (state_of mirrors service store) calls left →
    HasEvents mirrors service left
operated mirrors [] service store left due leads = record {
  events = [];
  own = tt;
  leaves = subst (λ (s : State). state_of mirrors service s.store ≡ s) (sym leads) refl;
}
operated mirrors (call ∷ calls) service store left due (next, called, leads) =
    let step = operator_calls_are_events mirrors service store call next due called in
    let after = run happens mirrors service step.events in
    let rest = operated mirrors calls after next.store left
    (subst (λ (h : History). IsDueAfter h next.store) (sym (ap (λ (s : State). s.history) step.leaves)) step.follows)
    (subst (λ (s : State). Leads IsOperatorCall s calls left) (sym step.leaves) leads) in
    record {
      events = step.events ++ rest.events;
      own = all-append IsOwn step.events rest.events (recursion_from_All IsOwn step.events step.own) rest.own;
      leaves =
          ap (λ (s : Service). state_of mirrors s left.store)
          (run-append happens mirrors step.events rest.events service)
          ∙ rest.leaves;
    }

-- its raises alone, and its batches alone
abbrev raises_of : Event → List Event
raises_of (Raise mirror bytes) = Raise mirror bytes ∷ []
raises_of event = []

abbrev given_of : Event → Given
given_of (Publish known batch) = (known, batch) ∷ []
given_of event = []

-- the books after its raises
abbrev books_of : Event → (ℕ → Account) → ℕ → Account
books_of (Raise mirror bytes) books = with_budget books mirror bytes
books_of event books = books

abbrev books_by : (ℕ → Account) → List Event → ℕ → Account
books_by books [] = books
books_by books (event ∷ events) = books_by (books_of event books) events

abbrev raises_in : List Event → List Event
raises_in events = flat_map raises_of events

abbrev given_in : List Event → Given
given_in events = flat_map given_of events

-- none of these is a rejection
raises-full : (mirrors : List Mirror) (totals : List ℕ) (events : List Event) →
    AllByRecursion (IsOfFull mirrors totals) (raises_in events)
raises-full mirrors totals [] = tt
raises-full mirrors totals (Raise mirror bytes ∷ events) = (tt, raises-full mirrors totals events)
raises-full mirrors totals (Publish known batch ∷ events) = raises-full mirrors totals events
raises-full mirrors totals (Enter worker ∷ events) = raises-full mirrors totals events
raises-full mirrors totals (Learn worker number ∷ events) = raises-full mirrors totals events
raises-full mirrors totals (Plan worker request tables ∷ events) = raises-full mirrors totals events
raises-full mirrors totals (Grant worker mirror bytes ∷ events) = raises-full mirrors totals events
raises-full mirrors totals (Reject worker mirror bytes ∷ events) = raises-full mirrors totals events
raises-full mirrors totals (Render worker moment ∷ events) = raises-full mirrors totals events
raises-full mirrors totals (Drop worker ∷ events) = raises-full mirrors totals events

-- with the raises alone the books are those
raised : (mirrors : List Mirror) (events : List Event) (service : Service) → AllByRecursion IsOwn events →
    run happens mirrors service (raises_in events) ≡ record service { books = books_by service.books events }
raised mirrors [] service own = refl
raised mirrors (Raise mirror bytes ∷ events) service own =
    raised mirrors events (record service { books = with_budget service.books mirror bytes }) own.1
raised mirrors (Publish known batch ∷ events) service own = raised mirrors events service own.1
raised mirrors (Enter worker ∷ events) service own = absurd (false≢true own.0)
raised mirrors (Learn worker number ∷ events) service own = absurd (false≢true own.0)
raised mirrors (Plan worker request tables ∷ events) service own = absurd (false≢true own.0)
raised mirrors (Grant worker mirror bytes ∷ events) service own = absurd (false≢true own.0)
raised mirrors (Reject worker mirror bytes ∷ events) service own = absurd (false≢true own.0)
raised mirrors (Render worker moment ∷ events) service own = absurd (false≢true own.0)
raised mirrors (Drop worker ∷ events) service own = absurd (false≢true own.0)

-- with all of them too, and the history is that of the batches
published-too : (mirrors : List Mirror) (events : List Event) (service : Service) → AllByRecursion IsOwn events →
    run happens mirrors service events
    ≡ record service { history = shown service.history (given_in events); books = books_by service.books events }
published-too mirrors [] service own = refl
published-too mirrors (Raise mirror bytes ∷ events) service own =
    published-too mirrors events (happens mirrors service (Raise mirror bytes)) own.1
published-too mirrors (Publish known batch ∷ events) service own =
    published-too mirrors events (happens mirrors service (Publish known batch)) own.1
published-too mirrors (Enter worker ∷ events) service own = absurd (false≢true own.0)
published-too mirrors (Learn worker number ∷ events) service own = absurd (false≢true own.0)
published-too mirrors (Plan worker request tables ∷ events) service own = absurd (false≢true own.0)
published-too mirrors (Grant worker mirror bytes ∷ events) service own = absurd (false≢true own.0)
published-too mirrors (Reject worker mirror bytes ∷ events) service own = absurd (false≢true own.0)
published-too mirrors (Render worker moment ∷ events) service own = absurd (false≢true own.0)
published-too mirrors (Drop worker ∷ events) service own = absurd (false≢true own.0)

-- nothing is granted by a raise
total-kept : (event : Event) (books : ℕ → Account) (mirror : ℕ) →
    (books_of event books mirror).total ≡ (books mirror).total
total-kept (Raise raised bytes) books mirror = refl
total-kept (Publish known batch) books mirror = refl
total-kept (Enter worker) books mirror = refl
total-kept (Learn worker number) books mirror = refl
total-kept (Plan worker request tables) books mirror = refl
total-kept (Grant worker granting bytes) books mirror = refl
total-kept (Reject worker rejecting bytes) books mirror = refl
total-kept (Render worker moment) books mirror = refl
total-kept (Drop worker) books mirror = refl

totals-kept : (events : List Event) (books : ℕ → Account) (mirror : ℕ) →
    (books_by books events mirror).total ≡ (books mirror).total
totals-kept [] books mirror = refl
totals-kept (event ∷ events) books mirror = totals-kept events (books_of event books) mirror
    ∙ total-kept event books mirror

-- the calls of a worker with what each led to
record HasRounds (mirrors : List Mirror) (now : Progress) (calls : List Call) (left : Progress) : Type 0 where
  rounds : List Round
  chain : Chain mirrors now rounds left
  are : map (λ (round : Round). round.call) rounds ≡ calls

rounds-of : (mirrors : List Mirror) (now : Progress) (calls : List Call) (left : Progress) →
    Leads (IsCall mirrors) now calls left → HasRounds mirrors now calls left
rounds-of mirrors now [] left leads = record { rounds = []; chain = leads; are = refl }
rounds-of mirrors now (call ∷ calls) left (next, called, leads) =
    let rest = rounds-of mirrors next calls left leads in
    record {
      rounds = record { call = call; after = next } ∷ rest.rounds;
      chain = (called, rest.chain);
      are = ap (λ (cs : List Call). call ∷ cs) rest.are;
    }

-- the workers' tasks when the service opens
record HasTasks (mirrors : List Mirror) (start left : History) (workers : List (List Call))
    (asks : List (List Ask)) : Type 0 where
  tasks : List Task
  each : AllByRecursion (IsTask mirrors left (length start)) tasks
  wholes : map (λ (task : Task). task.whole) tasks ≡ map (flat_map sent_by) workers
  at : AllZip IsAtTask tasks (replicate (length workers) (new_worker (length start)))
  none : (mirror : ℕ) → sum_by (granted_so_far mirror) tasks ≡ 0
  granted : (mirror : ℕ) → sum_by (granted_in_all mirror) tasks ≡ granted_by asks mirror
  asked : map (λ (task : Task). task.left.asks) tasks ≡ asks

tasks-of : (mirrors : List Mirror) (start left : History) (workers : List (List Call)) (asks : List (List Ask)) →
    AllZip (IsWorked mirrors start left) workers asks → HasTasks mirrors start left workers asks
tasks-of mirrors start left [] [] worked =
    record { tasks = []; each = tt; wholes = refl; at = tt; none = λ mirror. refl; granted = λ mirror. refl; asked = refl }
tasks-of mirrors start left [] (own ∷ asks) worked = absurd worked
tasks-of mirrors start left (calls ∷ workers) [] worked = absurd worked
tasks-of mirrors start left (calls ∷ workers) (own ∷ asks) worked =
    let first : Progress = record { sight = fresh start; asks = [] } in
    let end : Progress = record { sight = worked.0.sight; asks = own } in
    let has = rounds-of mirrors first calls end worked.0.leads in
    let rest = tasks-of mirrors start left workers asks worked.1 in
    let task : Task = record {
      now = first;
      sent = [];
      rounds = has.rounds;
      left = end;
      whole = sent_by_all has.rounds;
    } in
    record {
      tasks = task ∷ rest.tasks;
      each = (
        record {
          chain = has.chain;
          allowed = worked.0.allowed;
          low = omega arith;
          from = from-now mirrors (length start) first has.rounds end has.chain (omega arith);
          whole = refl;
        },
        rest.each,
      );
      wholes =
          ap₂ (λ (one : List Sent) (others : List (List Sent)). one ∷ others)
          (ap (λ (cs : List Call). flat_map sent_by cs) has.are) rest.wholes;
      at = (record { idle = refl; seen = refl; shares = λ mirror. refl; sent = refl }, rest.at);
      none = λ mirror.
          let others = rest.none mirror in
          let whole = sum_by-cons (granted_so_far mirror) task rest.tasks in
          let nothing : granted_so_far mirror task ≡ 0 = refl in
          omega arith;
      granted = λ mirror.
          let others = rest.granted mirror in
          let whole = sum_by-cons (granted_in_all mirror) task rest.tasks in
          let sums = sum_by-cons (λ (a : List Ask). granted_at mirror a) own asks in
          omega arith;
      asked = ap (λ (others : List (List Ask)). own ∷ others) rest.asked;
    }

-- the total at an index, of at most four
total-at : (granted : ℕ → ℕ) (count index : ℕ) → index < count → count ≤ 4 →
    slice_index (take count (granted 0 ∷ granted 1 ∷ granted 2 ∷ granted 3 ∷ [])) index ≡ granted index
total-at granted zero index below few = absurd (omega arith)
total-at granted (suc count) zero below few = refl
total-at granted (suc zero) (suc index) below few = absurd (omega arith)
total-at granted (suc (suc count)) (suc zero) below few = refl
total-at granted (suc (suc zero)) (suc (suc index)) below few = absurd (omega arith)
total-at granted (suc (suc (suc count))) (suc (suc zero)) below few = refl
total-at granted (suc (suc (suc zero))) (suc (suc (suc index))) below few = absurd (omega arith)
total-at granted (suc (suc (suc (suc count)))) (suc (suc (suc zero))) below few = refl
total-at granted (suc (suc (suc (suc count)))) (suc (suc (suc (suc index)))) below few = absurd (omega arith)

module _ (calls : WorkerCallsAreEvents) (mirrors : List Mirror) (start : History) (kept : Store)
    (proceedings : Proceedings) (left : State)
    (served : IsServed mirrors start kept proceedings left) where
  abbrev opening : Service
  opening = opened mirrors start (length proceedings.workers)

  begun : state_of mirrors opening kept ≡ record { mirrors = mirrors; history = start; store = kept }
  begun = ap (λ (ms : List Mirror). record { mirrors = ms; history = start; store = kept }) (present-opened mirrors)

  own : HasEvents mirrors opening left
  own =
      operated mirrors proceedings.operator opening kept left
      (subst (λ (due : Option History). IsDueAfter start
      (record { first = kept.first; records = kept.records; due = due }))
      (sym served.due) tt)
      (subst (λ (s : State). Leads IsOperatorCall s proceedings.operator left) (sym begun) served.operated)

  abbrev books : ℕ → Account
  books = books_by (opened_book mirrors) own.events

  abbrev given : Given
  given = given_in own.events

  -- the service after all raises
  abbrev raised_first : Service
  raised_first = record { history = start; books = books; workers = opening.workers }

  all-published : run happens mirrors opening own.events
      ≡ record { history = shown start given; books = books; workers = opening.workers }
  all-published = published-too mirrors own.events opening own.own

  shows : shown start given ≡ left.history
  shows =
      sym (ap (λ (s : Service). s.history) all-published) ∙ ap (λ (s : State). s.history) own.leaves

  presents : with_budgets_of books mirrors ≡ left.mirrors
  presents =
      sym (ap (λ (s : Service). present mirrors s) all-published) ∙ ap (λ (s : State). s.mirrors) own.leaves

  has : HasTasks mirrors start left.history proceedings.workers served.asks
  has = tasks-of mirrors start left.history proceedings.workers served.asks served.worked

  long : length left.mirrors ≡ length mirrors
  long = ap (λ (ms : List Mirror). length ms) (sym presents) ∙ length-present books mirrors

  -- a total of the proceedings
  total : (mirror : ℕ) → mirror < length mirrors → granted_by served.asks mirror ≡ slice_index proceedings.totals mirror
  total mirror below =
      let few = served.few in
      let same = long in
      sym (ap (λ (ts : List ℕ). slice_index ts mirror) served.summed.sums
      ∙ total-at (granted_by served.asks) (length left.mirrors) mirror (omega arith) (omega arith))

  within : (mirror : ℕ) → mirror < length mirrors → sum_by (granted_in_all mirror) has.tasks ≤ (books mirror).budget
  within mirror below =
      let same = long in
      let sum = has.granted mirror in
      let sums = total mirror below in
      let low = served.summed.within mirror (omega arith) in
      let budget = ap (λ (ms : List Mirror). budget_at ms mirror) (sym presents)
      ∙ budget_at-present books mirrors mirror below in
      omega arith

  serving : IsServing mirrors left.history has.tasks given raised_first
  serving = record {
    workers = has.at;
    totals = λ mirror.
        let none = has.none mirror in
        let zero : (opened_book mirrors mirror).total ≡ 0 = refl in
        let kept = totals-kept own.events (opened_book mirrors) mirror in
        omega arith;
    within = within;
    each = has.each;
    shows = shows;
  }

  done : HasDone mirrors proceedings.totals left.history has.tasks raised_first
  done = serves mirrors proceedings.totals left.history served.some calls (left_of has.tasks given + 1) raised_first has.tasks given
      (omega arith) serving

  after : service_after happens mirrors start (length proceedings.workers)
      (raises_in own.events ++ done.events) ≡ done.last
  after =
      run-append happens mirrors (raises_in own.events) done.events opening
      ∙ ap (λ (s : Service). run happens mirrors s done.events) (raised mirrors own.events opening own.own)
      ∙ done.leads

  -- what was rejected of each task's asks had no room
  had : AllByRecursion (HadNone mirrors proceedings.totals) has.tasks
  had = of-tasks has.tasks served.asks has.asked (recursion_from_All (All Had) served.asks served.rejected)
    where
      Had : Ask → Type 0
      Had ask = ask.1 ≡ None → AreFull mirrors proceedings.totals ask.0

      of-tasks : (tasks : List Task) (asks : List (List Ask)) → map (λ (task : Task). task.left.asks) tasks ≡ asks →
          AllByRecursion (All Had) asks → AllByRecursion (HadNone mirrors proceedings.totals) tasks
      of-tasks [] asks same all = tt
      of-tasks (task ∷ tasks) asks same all =
          let both = subst (AllByRecursion (All Had)) (sym same) all in
          (recursion_from_All Had task.left.asks both.0, of-tasks tasks _ refl both.1)

  interleaved : IsInterleaved mirrors start proceedings left
  interleaved = record {
    events = raises_in own.events ++ done.events;
    done =
        subst (IsDone mirrors proceedings left) (sym after)
        (record {
          published = done.history;
          raised =
              with_budgets_of-same done.last.books books mirrors done.budgets ∙ presents;
          sent = done.sent ∙ has.wholes;
          idle = All-from_recursion (λ (worker : Worker). worker.job ≡ None) done.last.workers done.idle;
          totals = λ mirror below. done.totals mirror ∙ has.granted mirror ∙ total mirror below;
        });
    rejected =
        All-from_recursion (IsOfFull mirrors proceedings.totals) (raises_in own.events ++ done.events)
        (all-append (IsOfFull mirrors proceedings.totals) (raises_in own.events) done.events
        (raises-full mirrors proceedings.totals own.events) (done.rejected had));
  }

pub runs_are_interleavings : WorkerCallsAreEvents → RunsAreInterleavings
runs_are_interleavings calls mirrors start kept proceedings left served = interleaved calls mirrors start kept
    proceedings left served
