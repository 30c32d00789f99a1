-- The calls of a worker's desk as lists of events: what leads from one state of a worker to the next, with what it
-- sent.
use Rattle.std.specs.Prelude.{◌≡◌, ℕ, zero, suc, ◌+◌, ◌≤◌, ◌<◌, false, List, [], ◌∷◌, ◌++◌, All, IfSome, flat_map, length, Option, None, Some, Result, Ok, Err}
use Rattle.std.specs.Option.{option_map_or}
use Rattle.catalogue.specs.Histories.{History}
use Rattle.http_desks.specs.Calls.{Asks, Call, Looks, Shows}
use Rattle.http_desks.specs.declared.desk.DeskStatus.{DeskStatus}
use Rattle.http_desks.specs.declared.desk.DeskStatus.TheVariants as status
use Rattle.http_desks.specs.declared.desk.Off.{Off}
use Rattle.mirror_ledger.specs.Asks.{Ask, granted_at}
use Rattle.mirror_books.specs.Budgets.{Account}
use Rattle.mirror_ledger.specs.Named.{budget_at}
use Rattle.omaha_json.specs.ReplyWriting.{reply_bytes}
use Rattle.omaha_json.specs.RequestReading.{request_of_bytes}
use Rattle.omaha_json.specs.declared.fault.RequestFault.{RequestFault}
use Rattle.omaha_json.specs.declared.request.Request.{Request}
use Rattle.catalogue.specs.declared.mirror.Mirror.{Mirror}
use Rattle.replies.specs.Asking.{GrantsFirst}
use Rattle.service_desks.specs.Entries.{Enters}
use Rattle.service_desks.specs.Workers.{IsCall, Progress}
use Rattle.theorems.specs.Choices.{Tables}
use Rattle.theorems.specs.Events.{Drop, Enter, Event, Grant, Plan, Reject, Render, happens, run}
use Rattle.theorems.specs.Jobs.{EndedJob, Pending, Rendered, Worker}
use Rattle.theorems.specs.InterleavingLaws.{worker_at}
use Rattle.theorems.specs.Services.{Service, changed_at, has_room}

-- so many mirrors, from an index on, reject a worker's bytes
abbrev pub rejections : ℕ → ℕ → ℕ → ℕ → List Event
rejections worker bytes mirror zero = []
rejections worker bytes mirror (suc count) = Reject worker mirror bytes ∷ rejections worker bytes (mirror + 1) count

-- a worker asks for bytes: the mirrors before the one that grants them reject, or all mirrors do
abbrev pub ask_events : List Mirror → ℕ → ℕ → Option ℕ → List Event
ask_events mirrors worker bytes None = rejections worker bytes 0 (length mirrors)
ask_events mirrors worker bytes (Some mirror) = rejections worker bytes 0 mirror ++ Grant worker mirror bytes ∷ []

-- some asks, one after the other
abbrev pub asks_events : List Mirror → ℕ → List Ask → List Event
asks_events mirrors worker [] = []
asks_events mirrors worker (ask ∷ asks) = ask_events mirrors worker ask.0 ask.1 ++ asks_events mirrors worker asks

-- what a worker does in one call: nothing; it looks at what is published; it plans a request and asks, and its job is
-- dropped; or it asks for all and replies
pub data Work : Type 0 where
  Nothing : Work
  Look : Work
  Break : (request : Request) (tables : Tables) (asks : List Ask) → Work
  Reply : (request : Request) (tables : Tables) (asks : List Ask) (moment : ℕ) → Work

-- rule: Events of a call
abbrev pub events_of : List Mirror → ℕ → Work → List Event
events_of mirrors worker Nothing = []
events_of mirrors worker Look = Enter worker ∷ Drop worker ∷ []
events_of mirrors worker (Break request tables asks) =
    Enter worker ∷ Plan worker request tables ∷ (asks_events mirrors worker asks ++ Drop worker ∷ [])
events_of mirrors worker (Reply request tables asks moment) =
    Enter worker ∷ Plan worker request tables ∷ (asks_events mirrors worker asks ++ Render worker moment ∷ [])

-- what it asks for
abbrev pub asks_in : Work → List Ask
asks_in Nothing = []
asks_in Look = []
asks_in (Break request tables asks) = asks
asks_in (Reply request tables asks moment) = asks

-- each ask was granted by one of the mirrors, or by none
abbrev pub AreOfMirrors : List Mirror → List Ask → Type 0
AreOfMirrors mirrors asks = All (λ (ask : Ask). IfSome ask.1 (λ mirror. mirror < length mirrors)) asks

-- a reply that was sent: to which request, at which time, and its bytes
pub record Sent : Type 0 where
  pub request : Request
  pub moment : ℕ
  pub text : List ℕ

-- a reply to a request that was read
abbrev pub sent_to : ℕ → List ℕ → Result Request RequestFault → List Sent
sent_to moment text (Ok request) = record { request = request; moment = moment; text = text } ∷ []
sent_to moment text (Err fault) = []

-- by the status; a request with a fault gets 400 and no body, which is no reply here
abbrev pub sent_with : List ℕ → ℕ → DeskStatus → List ℕ → List Sent
sent_with input moment status.Success text = sent_to moment text (request_of_bytes input)
sent_with input moment status.BadRequest text = []
sent_with input moment status.Conflict text = []
sent_with input moment status.UnprocessableContent text = []
sent_with input moment status.ServiceUnavailable text = []

abbrev pub sent_as : List ℕ → ℕ → Result (DeskStatus × List ℕ) Off → List Sent
sent_as input moment (Ok answer) = sent_with input moment answer.0 answer.1
sent_as input moment (Err off) = []

-- the reply that a call of a worker's desk sent, if it sent one
abbrev pub sent_by : Call → List Sent
sent_by (Asks input moment answer) = sent_as input moment answer
sent_by (Looks name found) = []
sent_by (Shows at page) = []

-- the reply with which a job ended, if it ended with one
abbrev pub sent_for : EndedJob → List Sent
sent_for ended =
    option_map_or
    (λ (rendered : Rendered).
    option_map_or
    (λ (pending : Pending).
    record { request = pending.request; moment = rendered.moment; text = reply_bytes rendered.reply } ∷ [])
    ended.job.pending [])
    ended.rendered []

-- the replies of a worker, in order
abbrev pub sent_in : Worker → List Sent
sent_in worker = flat_map sent_for worker.ended

-- a worker of the machine between two calls: it has no job, it has seen as many batches as its view, each of its shares
-- is what the mirror granted of its asks, and it sent these replies
pub record IsBetween (progress : Progress) (replies : List Sent) (worker : Worker) : Type 0 where
  pub idle : worker.job ≡ None
  pub seen : worker.seen ≡ progress.sight.seen
  pub shares : (mirror : ℕ) → worker.share mirror ≡ granted_at mirror progress.asks
  pub sent : sent_in worker ≡ replies

-- if the view entered anything, that is what is published
abbrev pub EntersPublished : History → Progress → Progress → Type 0
EntersPublished published before after =
    (history : History) → Enters before.sight history after.sight → history ≡ published

-- each mirror has room for what it granted
abbrev pub HaveRoom : List Mirror → Service → Progress → Progress → Type 0
HaveRoom mirrors service before after =
    (mirror : ℕ) → mirror < length mirrors →
    (service.books mirror).total + granted_at mirror after.asks
    ≤ (service.books mirror).budget + granted_at mirror before.asks

-- a service after a call of the worker at an index: that worker alone is another one, it sent what the call sent and
-- nothing else, and the mirrors granted what the call asked for and nothing else
pub record IsAfterCall (service : Service) (index : ℕ) (before after : Progress) (sent : List Sent)
    (left : Service) : Type 0 where
  pub worker : Worker
  pub history : left.history ≡ service.history
  pub workers : left.workers ≡ changed_at index (λ (old : Worker). worker) service.workers
  pub between : IsBetween after sent worker
  pub budgets : (mirror : ℕ) → (left.books mirror).budget ≡ (service.books mirror).budget
  pub totals :
      (mirror : ℕ) →
      (left.books mirror).total + granted_at mirror before.asks
      ≡ (service.books mirror).total + granted_at mirror after.asks

-- the call is the events of some work, which asks for what the call asked for
pub record IsWork (mirrors : List Mirror) (service : Service) (index : ℕ) (before after : Progress)
    (sent : List Sent) : Type 0 where
  pub work : Work
  pub leads : IsAfterCall service index before after sent (run happens mirrors service (events_of mirrors index work))
  pub asked : after.asks ≡ before.asks ++ asks_in work
  pub named : AreOfMirrors mirrors (asks_in work)

-- each call of a worker's desk is
abbrev pub WorkerCallsAreEvents : Type 0
WorkerCallsAreEvents =
    (mirrors : List Mirror) (service : Service) (index : ℕ) (worker : Worker) (before after : Progress)
    (sent : List Sent) (call : Call) →
    1 ≤ length mirrors →
    worker_at service index ≡ Some worker →
    IsBetween before sent worker →
    IsCall mirrors before call after →
    EntersPublished service.history before after →
    HaveRoom mirrors service before after →
    IsWork mirrors service index before after (sent ++ sent_by call)

-- an event that is a rejection is of a mirror without room
abbrev pub IsForRoom : Service → Event → Type 0
IsForRoom service (Reject worker mirror bytes) = has_room (service.books mirror) bytes ≡ false
IsForRoom service event = Unit {0}

-- so is each event of a list, when it happens
abbrev pub AreForRoom : List Mirror → Service → List Event → Type 0
AreForRoom mirrors service [] = Unit {0}
AreForRoom mirrors service (event ∷ events) =
    IsForRoom service event × AreForRoom mirrors (happens mirrors service event) events

-- nothing was granted but to one worker, and no budget was raised
abbrev pub IsOfOneWorker : List Mirror → (ℕ → Account) → List Ask → Type 0
IsOfOneWorker mirrors books asks =
    (mirror : ℕ) → mirror < length mirrors →
    ((books mirror).total ≡ granted_at mirror asks) × ((books mirror).budget ≡ budget_at mirrors mirror)

-- in a call of such a worker, whose asks are each granted by the first mirror with room, the mirrors that reject are
-- without room
abbrev pub LoneCallsAreForRoom : Type 0
LoneCallsAreForRoom =
    (mirrors : List Mirror) (service : Service) (index : ℕ) (worker : Worker) (before after : Progress)
    (sent : List Sent) (call : Call) →
    1 ≤ length mirrors →
    worker_at service index ≡ Some worker →
    IsBetween before sent worker →
    IsCall mirrors before call after →
    EntersPublished service.history before after →
    HaveRoom mirrors service before after →
    IsOfOneWorker mirrors service.books before.asks →
    GrantsFirst mirrors before.asks after.asks →
    (work : IsWork mirrors service index before after (sent ++ sent_by call))
    × AreForRoom mirrors service (events_of mirrors index work.work)
