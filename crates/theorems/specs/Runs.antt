-- Small runs, worked by hand. An app has release 1.0 of 3 bytes, the target of all its clients; a mirror may be granted
-- 5 bytes. A client that has no release asks.
use Rattle.std.specs.Prelude.{◌≡◌, ℕ, ◌+◌, true, false, List, [], ◌∷◌, codes, map, replicate, Option, None, Some, option_map}
use Rattle.catalogue.specs.declared.edit.Edit.{Edit}
use Rattle.catalogue.specs.declared.edit.Edit.TheVariants as edit
use Rattle.omaha_json.specs.declared.reply.AppReply.{AppReply}
use Rattle.omaha_json.specs.declared.reply.CheckReply.{CheckReply}
use Rattle.omaha_json.specs.declared.reply.CheckReply.TheVariants as check
use Rattle.omaha_json.specs.declared.request.Request.{Request}
use Rattle.price_cert.specs.declared.row.Row.TheVariants.{End, Nothing}
use Rattle.catalogue.specs.declared.mirror.Mirror.{Mirror}
use Rattle.theorems.specs.Asks.{check_in}
use Rattle.theorems.specs.Choices.{Tables}
use Rattle.theorems.specs.Events.{Drop, Enter, Event, Grant, Learn, Plan, Publish, Raise, Reject, Render, happens, service_after}
use Rattle.theorems.specs.Jobs.{EndedJob, Rendered, Worker, new_worker}
use Rattle.theorems.specs.Services.{Service}

abbrev pub small_mirrors : List Mirror
small_mirrors = record { name = codes "m0"; codebase = codes "http://m0/p/"; budget = 5 } ∷ []

abbrev pub release_of : List ℕ → ℕ → Edit
release_of version size =
    edit.AddRelease (record {
      app = codes "mini";
      version = version;
      name = version;
      size = size;
      sha256 = replicate 64 (48 + size);
    })

-- batch 1
abbrev pub small_batch : List Edit
small_batch =
    edit.AddApp (record { app = codes "mini"; default = codes "stable" })
    ∷ release_of (codes "1.0") 3
    ∷ edit.SetTarget (record { app = codes "mini"; cohort = codes "stable"; target = Some (codes "1.0"); held = None })
    ∷ []

-- a batch that withdraws the release, one that adds a release below it, and one that names an unknown release
abbrev pub withdrawal : Edit
withdrawal = edit.SetWithdrawn (record { app = codes "mini"; version = codes "1.0"; on = true })

abbrev pub lower_release : Edit
lower_release = release_of (codes "0.5") 2

abbrev pub unknown_release : Edit
unknown_release = edit.SetWithdrawn (record { app = codes "mini"; version = codes "7.0"; on = true })

abbrev pub small_request : Request
small_request =
    record {
      session = codes "s";
      apps =
          record {
            appid = codes "mini";
            version = codes "0.0";
            fp = [];
            cohort = codes "stable:319";
            hint = [];
            check = Some (record { disabled = false; rollback = false; prefix = [] });
            ping = false;
            events = 0;
          }
          ∷ [];
    }

-- the certified rows of the track while it has the one release, and rows that are not certified
abbrev pub small_rows : Tables
small_rows ask = End ∷ []

abbrev pub wrong_rows : Tables
wrong_rows ask = Nothing ∷ []

-- a worker begins and plans a job
abbrev pub begins : ℕ → List Event → List Event
begins worker events = Enter worker ∷ Plan worker small_request small_rows ∷ events

abbrev pub status_of : CheckReply → List ℕ
status_of check.NoUpdate = codes "noupdate"
status_of check.Internal = codes "error-internal"
status_of (check.Offered offer) = codes "ok"
status_of check.Other = []

-- what a worker's ended jobs came to: the number of batches, and the statuses of the reply if there is one
abbrev pub Outcome : Type 0
Outcome = ℕ × Option (List (Option (List ℕ)))

abbrev pub statuses_in : Rendered → List (Option (List ℕ))
statuses_in rendered = map (λ (app : AppReply). option_map status_of (check_in app)) rendered.reply.apps

abbrev pub outcome_of : EndedJob → Outcome
outcome_of ended = (ended.job.number, option_map statuses_in ended.rendered)

abbrev pub outcomes_in : Service → List (List Outcome)
outcomes_in service = map (λ (worker : Worker). map outcome_of worker.ended) service.workers

-- a reply to one app, and a job without a reply
abbrev pub replied : ℕ → List ℕ → Outcome
replied number status = (number, Some (Some status ∷ []))

abbrev pub dropped : ℕ → Outcome
dropped number = (number, None)

-- what a mirror granted each worker
abbrev pub shares_in : Service → List ℕ
shares_in service = map (λ (worker : Worker). worker.share 0) service.workers

-- the small service after some events
abbrev pub small_run : ℕ → List Event → Service
small_run workers events = service_after happens small_mirrors (small_batch ∷ []) workers events

-- between the plan of one worker and its reply, the release is withdrawn; the other worker enters afterwards
abbrev pub published_between : Service
published_between =
    small_run 2
    (begins 0 (
    Publish 1 (withdrawal ∷ [])
    ∷ begins 1 (Grant 0 0 3 ∷ Render 0 86400 ∷ Render 1 86400 ∷ [])
    ))

pub record PublishBetween : Type 0 where
  pub history : published_between.history ≡ small_batch ∷ (withdrawal ∷ []) ∷ []
  pub outcomes :
      outcomes_in published_between ≡ (replied 1 (codes "ok") ∷ []) ∷ (replied 2 (codes "noupdate") ∷ []) ∷ []

-- a worker drops its job after a grant: the grant stays
abbrev pub dropped_late : Service
dropped_late = small_run 1 (begins 0 (Grant 0 0 3 ∷ Drop 0 ∷ []))

pub record DropAfterGrant : Type 0 where
  pub outcomes : outcomes_in dropped_late ≡ (dropped 1 ∷ []) ∷ []
  pub share : shares_in dropped_late ≡ 3 ∷ []
  pub total : (dropped_late.books 0).total ≡ 3

-- of two publishers that know of one batch the second is too late
abbrev pub published_late : Service
published_late = small_run 1 (Publish 1 (withdrawal ∷ []) ∷ Publish 1 (lower_release ∷ []) ∷ [])

pub record StalePublish : Type 0 where
  pub history : published_late.history ≡ small_batch ∷ (withdrawal ∷ []) ∷ []

-- two workers ask one mirror, which has room for the first
abbrev pub both_ask : List Event
both_ask = Grant 0 0 3 ∷ Grant 1 0 3 ∷ Render 0 86400 ∷ Render 1 86400 ∷ []

abbrev pub budget_ended : Service
budget_ended = small_run 2 (begins 0 (begins 1 both_ask))

pub record BudgetEnds : Type 0 where
  pub outcomes :
      outcomes_in budget_ended ≡ (replied 1 (codes "ok") ∷ []) ∷ (replied 1 (codes "error-internal") ∷ []) ∷ []
  pub shares : shares_in budget_ended ≡ 3 ∷ 0 ∷ []
  pub total : (budget_ended.books 0).total ≡ 3

-- with a raised budget it has room for both
abbrev pub budget_raised : Service
budget_raised = small_run 2 (begins 0 (begins 1 (Raise 0 6 ∷ Raise 0 4 ∷ both_ask)))

pub record BudgetRaised : Type 0 where
  pub outcomes : outcomes_in budget_raised ≡ (replied 1 (codes "ok") ∷ []) ∷ (replied 1 (codes "ok") ∷ []) ∷ []
  pub total : (budget_raised.books 0).total ≡ 6
  pub budget : (budget_raised.books 0).budget ≡ 6

-- a mirror with room rejects one worker, once, and grants the other one's bytes
abbrev pub rejected_then_granted : Service
rejected_then_granted =
    small_run 2 (begins 0 (begins 1 (Reject 0 0 3 ∷ Reject 0 0 3 ∷ Grant 1 0 3 ∷ Render 0 86400 ∷ Render 1 86400 ∷ [])))

pub record RejectedWithRoom : Type 0 where
  pub outcomes :
      outcomes_in rejected_then_granted ≡ (replied 1 (codes "error-internal") ∷ []) ∷ (replied 1 (codes "ok") ∷ []) ∷ []
  pub shares : shares_in rejected_then_granted ≡ 0 ∷ 3 ∷ []
  pub total : (rejected_then_granted.books 0).total ≡ 3

-- events whose conditions fail: a worker without a job plans, asks, renders and drops, and hears of what isn't
-- published; there is no worker 7; an edit is rejected
abbrev pub nothing_happened : Service
nothing_happened =
    small_run 1
    (Plan 0 small_request small_rows
    ∷ Grant 0 0 3
    ∷ Reject 0 0 3
    ∷ Render 0 86400
    ∷ Drop 0
    ∷ Learn 0 2
    ∷ Enter 7
    ∷ Publish 1 (unknown_release ∷ [])
    ∷ [])

-- rows that are not certified plan nothing, so nothing is rendered
abbrev pub unplanned : Service
unplanned = small_run 1 (Enter 0 ∷ Plan 0 small_request wrong_rows ∷ Grant 0 0 3 ∷ Render 0 86400 ∷ [])

pub record FailedConditions : Type 0 where
  pub history : nothing_happened.history ≡ small_batch ∷ []
  pub workers : nothing_happened.workers ≡ new_worker 1 ∷ []
  pub total : (nothing_happened.books 0).total ≡ 0
  pub outcomes : outcomes_in unplanned ≡ [] ∷ []
