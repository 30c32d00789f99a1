-- Calls and a run of a service, worked by hand as events; proceedings that are of a run, and some that are of none.
use Rattle.std.specs.Prelude.{◌≡◌, ℕ, List, [], ◌∷◌, ◌++◌, codes, map, None, Some}
use Rattle.http_desks.specs.Calls.{Looks}
use Rattle.kept_records.specs.declared.record.Record.{Record}
use Rattle.service_desks.specs.Served.{IsServed, Proceedings}
use Rattle.service_desks.specs.States.{State, Store, store}
use Rattle.theorems.specs.Calls.{Break, Look, Nothing, Reply, Sent, Work, events_of, sent_in}
use Rattle.theorems.specs.Events.{Drop, Enter, Event, Grant, Plan, Publish, Raise, Reject, Render, happens, service_after}
use Rattle.theorems.specs.Jobs.{Worker}
use Rattle.theorems.specs.LargerRuns.{ask_of, asking, offers_in, two_apps, two_mirrors}
use Rattle.theorems.specs.Runs.{begins, dropped, outcomes_in, replied, shares_in, small_batch, small_mirrors, small_request, small_rows, small_run, withdrawal}
use Rattle.theorems.specs.Services.{Service}

-- the first mirror rejects the bytes of the first app, and both reject those of the second one
abbrev pub rejected_and_granted : Work
rejected_and_granted =
    Reply (asking (ask_of (codes "mini") [] [] ∷ ask_of (codes "maxi") [] [] ∷ [])) small_rows
    ((3, Some 1) ∷ (4, None) ∷ []) 86400

abbrev pub rejected_run : Service
rejected_run = service_after happens two_mirrors (two_apps ∷ []) 1 (events_of two_mirrors 0 rejected_and_granted)

pub record CallsWorked : Type 0 where
  pub nothing : events_of two_mirrors 0 Nothing ≡ []
  pub look : events_of two_mirrors 0 Look ≡ Enter 0 ∷ Drop 0 ∷ []
  pub asked :
      events_of small_mirrors 1 (Break small_request small_rows ((3, Some 0) ∷ []))
      ≡ begins 1 (Grant 1 0 3 ∷ Drop 1 ∷ [])
  pub replied :
      events_of two_mirrors 0 rejected_and_granted
      ≡ Enter 0
      ∷ Plan 0 (asking (ask_of (codes "mini") [] [] ∷ ask_of (codes "maxi") [] [] ∷ [])) small_rows
      ∷ Reject 0 0 3
      ∷ Grant 0 1 3
      ∷ Reject 0 0 4
      ∷ Reject 0 1 4
      ∷ Render 0 86400
      ∷ []
  pub outcomes :
      outcomes_in rejected_run ≡ ((1, Some (Some (codes "ok") ∷ Some (codes "error-internal") ∷ [])) ∷ []) ∷ []
  pub offers : offers_in rejected_run ≡ (codes "http://m1/p/", codes "1.0", 3) ∷ []
  pub first : (rejected_run.books 0).total ≡ 0
  pub second : (rejected_run.books 1).total ≡ 3

-- two workers and an operator: the budget is raised, worker 0 replies, the release is withdrawn between its two
-- replies, and worker 1 looks a package up, after it asked for 3 bytes in vain
abbrev pub worked_events : List Event
worked_events =
    Raise 0 6
    ∷ events_of small_mirrors 0 (Reply small_request small_rows ((3, Some 0) ∷ []) 86400)
    ++ events_of small_mirrors 1 (Reply small_request small_rows ((3, None) ∷ []) 90000)
    ++ Publish 1 (withdrawal ∷ [])
    ∷ events_of small_mirrors 0 (Reply small_request small_rows [] 172800)
    ++ events_of small_mirrors 1 Look

abbrev pub worked_run : Service
worked_run = small_run 2 worked_events

-- the times of the replies of each worker
abbrev pub times_in : Service → List (List ℕ)
times_in service = map (λ (worker : Worker). map (λ (sent : Sent). sent.moment) (sent_in worker)) service.workers

pub record RunWorked : Type 0 where
  pub history : worked_run.history ≡ small_batch ∷ (withdrawal ∷ []) ∷ []
  pub outcomes :
      outcomes_in worked_run
      ≡ (replied 1 (codes "ok") ∷ replied 2 (codes "noupdate") ∷ [])
      ∷ (replied 1 (codes "error-internal") ∷ dropped 2 ∷ [])
      ∷ []
  pub times : times_in worked_run ≡ (86400 ∷ 172800 ∷ []) ∷ (90000 ∷ []) ∷ []
  pub shares : shares_in worked_run ≡ 3 ∷ 0 ∷ []
  pub total : (worked_run.books 0).total ≡ 3
  pub budget : (worked_run.books 0).budget ≡ 6

-- a worker that looked a package up, which no release has
abbrev pub looked_up : Proceedings
looked_up = record { workers = (Looks (codes "none") None ∷ []) ∷ []; operator = []; totals = 0 ∷ [] }

-- its run, without a call of the operator
abbrev pub LookedUp : Type 0
LookedUp =
    (first : ℕ) (records : List Record) →
    IsServed small_mirrors (small_batch ∷ []) (store first records None) looked_up
    (record { mirrors = small_mirrors; history = small_batch ∷ []; store = store first records None })

-- a worker that was called for nothing, and a total that nobody asked for
abbrev pub made_up : Proceedings
made_up = record { workers = [] ∷ []; operator = []; totals = 3 ∷ [] }

-- an operator that was called for nothing, and a batch that it left
abbrev pub left_unpublished : State → State
left_unpublished state = record {
  mirrors = state.mirrors;
  history = small_batch ∷ (withdrawal ∷ []) ∷ [];
  store = state.store;
}

abbrev pub idle_proceedings : Proceedings
idle_proceedings = record { workers = [] ∷ []; operator = []; totals = 0 ∷ [] }

-- such proceedings are of no run
pub record ProceedingsRejected : Type 0 where
  pub made_up_totals :
      (kept : Store) (left : State) → ¬ (IsServed small_mirrors (small_batch ∷ []) kept made_up left)
  pub unpublished :
      (kept : Store) (state : State) →
      ¬ (IsServed small_mirrors (small_batch ∷ []) kept idle_proceedings (left_unpublished state))
