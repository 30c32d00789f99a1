-- That what a server's workers and its operator did, each by itself, is a run of the machine.
use Rattle.std.specs.Prelude.{◌≡◌, ℕ, ◌+◌, ◌≤◌, ◌<◌, All, List, flat_map, length, map, take, Option, None, slice_index}
use Rattle.catalogue.specs.Histories.{History, LeadsTo}
use Rattle.http_desks.specs.Calls.{Call}
use Rattle.mirror_ledger.specs.Tills.{AreFull}
use Rattle.omaha_json.specs.ReplyWriting.{reply_bytes}
use Rattle.omaha_json.specs.declared.reply.Reply.{Reply}
use Rattle.catalogue.specs.declared.mirror.Mirror.{Mirror}
use Rattle.replies.specs.declared.choices.Choice.{Choice}
use Rattle.service_desks.specs.Served.{IsServed, Proceedings}
use Rattle.service_desks.specs.States.{State, Store}
use Rattle.theorems.specs.Calls.{Sent, sent_by, sent_in}
use Rattle.theorems.specs.Events.{Event, Reject, happens, service_after}
use Rattle.theorems.specs.Jobs.{Worker}
use Rattle.theorems.specs.InterleavingLaws.{IsAcceptedHistory, IsReplyOf}
use Rattle.theorems.specs.Services.{Service, content_at, present}

-- a service of the machine after events: what the operator left is published, and the present mirrors are those that it
-- left; each worker sent the replies of its calls, in order, and no others, and has no job; and each mirror's total is
-- that of the proceedings
pub record IsDone (mirrors : List Mirror) (proceedings : Proceedings) (left : State) (service : Service) : Type 0 where
  pub published : service.history ≡ left.history
  pub raised : present mirrors service ≡ left.mirrors
  pub sent : map sent_in service.workers ≡ map (flat_map sent_by) proceedings.workers
  pub idle : All (λ (worker : Worker). worker.job ≡ None) service.workers
  pub totals : (mirror : ℕ) → mirror < length mirrors →
      (service.books mirror).total ≡ slice_index proceedings.totals mirror

-- an event by which the last mirror rejects an ask is of bytes for which no mirror has room, by the first budgets and
-- these totals
abbrev pub IsOfFull : List Mirror → List ℕ → Event → Type 0
IsOfFull mirrors totals (Reject worker mirror bytes) = mirror + 1 ≡ length mirrors → AreFull mirrors totals bytes
IsOfFull mirrors totals event = Unit {0}

-- a run of the machine since it opened comes to that, and each ask that all mirrors reject is of such bytes
pub record IsInterleaved (mirrors : List Mirror) (start : History) (proceedings : Proceedings)
    (left : State) : Type 0 where
  pub events : List Event
  pub done : IsDone mirrors proceedings left (service_after happens mirrors start (length proceedings.workers) events)
  pub rejected : All (IsOfFull mirrors proceedings.totals) events

-- each run of a service is a run of the machine
abbrev pub RunsAreInterleavings : Type 0
RunsAreInterleavings =
    (mirrors : List Mirror) (start : History) (kept : Store) (proceedings : Proceedings) (left : State) →
    IsServed mirrors start kept proceedings left → IsInterleaved mirrors start proceedings left

-- a reply that was sent is that of one published catalogue: to its request at its time, by a plan and outcomes, and by
-- the first batches of a history, of some number
pub record IsOfPublished (mirrors : List Mirror) (history : History) (sent : Sent) : Type 0 where
  pub number : ℕ
  pub some : 1 ≤ number
  pub published : number ≤ length history
  pub led : LeadsTo (take number history) (content_at history number)
  pub plan : List (Option Choice)
  pub outcomes : List (Option ℕ)
  pub reply : Reply
  pub is : IsReplyOf (content_at history number) mirrors sent.request plan outcomes sent.moment reply
  pub written : sent.text ≡ reply_bytes reply

-- each reply of each worker of a run is, by the history that the operator left, if the run began with an accepted one
abbrev pub ServedRepliesArePublished : Type 0
ServedRepliesArePublished =
    (mirrors : List Mirror) (start : History) (kept : Store) (proceedings : Proceedings) (left : State) →
    IsAcceptedHistory start →
    IsServed mirrors start kept proceedings left →
    All (λ (calls : List Call). All (IsOfPublished mirrors left.history) (flat_map sent_by calls)) proceedings.workers
