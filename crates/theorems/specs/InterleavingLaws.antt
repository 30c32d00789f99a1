-- What holds of a service after every list of events: every interleaving of publishers, workers and operators. Each
-- law is said of a machine, so that wrong machines can be held against it.
use Rattle.std.specs.Prelude.{◌≡◌, ℕ, ◌≤◌, if◌then◌else◌, true, All, Contains, List, [], ◌∷◌, ◌++◌, IfSome, length, nat_le, slice_get, sum_by, take, Option, None, Some}
use Rattle.std.specs.Option.{option_map_or}
use Rattle.catalogue.specs.declared.edit.Edit.{Edit}
use Rattle.catalogue.specs.Histories.{History, LeadsTo}
use Rattle.editions.specs.Editions.{content_of, max_batches}
use Rattle.mirror_ledger.specs.Named.{budget_at}
use Rattle.mirror_ledger.specs.Raising.{raise_at}
use Rattle.omaha_json.specs.declared.reply.Reply.{Reply}
use Rattle.omaha_json.specs.declared.request.Request.{Request}
use Rattle.par_tables.specs.Tables.{AreTables}
use Rattle.price_cert.specs.Tables.{Certificate}
use Rattle.catalogue.specs.declared.content.App.{App}
use Rattle.catalogue.specs.declared.mirror.Mirror.{Mirror}
use Rattle.replies.specs.Plans.{IsPlan, IsPlanOf, payloads_of}
use Rattle.replies.specs.Replies.{AreOutcomes, reply_of}
use Rattle.replies.specs.declared.choices.Choice.{Choice}
use Rattle.replies.specs.declared.choices.Plan.{Plan}
use Rattle.theorems.specs.Choices.{IsByPrices, Tables, are_certified}
use Rattle.theorems.specs.Events.{Event, Machine, Publish, Raise, service_after}
use Rattle.theorems.specs.Jobs.{EndedJob, Job, Pending, Rendered, Worker, granted_for, is_decided, jobs_of, outcomes_of}
use Rattle.theorems.specs.Services.{Service, content_at, present, published, raised_budget}

-- an accepted history with a batch, and not too long
pub record IsAcceptedHistory (history : History) : Type 0 where
  pub content : List App
  pub led : LeadsTo history content
  pub some : 1 ≤ length history
  pub few : length history ≤ max_batches

-- what holds of a service after every list of events since it opened with an accepted history
abbrev pub Always : Machine → (List Mirror → History → List Event → Service → Type 0) → Type 0
Always machine Holds =
    (mirrors : List Mirror) (start : History) (workers : ℕ) (events : List Event) →
    IsAcceptedHistory start →
    Holds mirrors start events (service_after machine mirrors start workers events)

-- what holds of such a service and of the same one after more events
abbrev pub Onward : Machine → (Service → Service → Type 0) → Type 0
Onward machine Holds =
    (mirrors : List Mirror) (start : History) (workers : ℕ) (events more : List Event) →
    IsAcceptedHistory start →
    Holds (service_after machine mirrors start workers events)
    (service_after machine mirrors start workers (events ++ more))

-- the reply to a request by one content: by a plan of first payloads of least chains, and by an outcome for each app;
-- no price is in it
pub record IsReplyOf (apps : List App) (mirrors : List Mirror) (request : Request) (plan : List (Option Choice))
    (outcomes : List (Option ℕ)) (moment : ℕ) (reply : Reply) : Type 0 where
  pub planned : IsPlan apps request plan
  pub decided : AreOutcomes mirrors plan outcomes
  pub is : reply ≡ reply_of apps request (payloads_of plan) outcomes mirrors moment

-- a rendered reply is that of one published catalogue: of the first batches, of the number that its job entered
pub record IsOfOneCatalogue (mirrors : List Mirror) (history : History) (job : Job) (rendered : Rendered) : Type 0 where
  pub some : 1 ≤ job.number
  pub published : job.number ≤ length history
  pub led : LeadsTo (take job.number history) (content_at history job.number)
  pub pending : Pending
  pub planned : job.pending ≡ Some pending
  pub decided : is_decided pending ≡ true
  pub reply_is :
      IsReplyOf (content_at history job.number) mirrors pending.request pending.choices (outcomes_of pending)
      rendered.moment rendered.reply

-- so is the reply of a job, if it ended with one
abbrev pub EndsWell : List Mirror → History → EndedJob → Type 0
EndsWell mirrors history ended = IfSome ended.rendered (IsOfOneCatalogue mirrors history ended.job)

-- rule: Every interleaving
-- each reply is that of one published catalogue
abbrev pub RepliesAreOfOneCatalogue : Machine → Type 0
RepliesAreOfOneCatalogue machine =
    Always machine
    (λ mirrors start events service.
    All (λ (worker : Worker). All (EndsWell mirrors service.history) worker.ended) service.workers)

-- the worker at an index, if there is one
abbrev pub worker_at : Service → ℕ → Option Worker
worker_at service index = slice_get service.workers index

-- the jobs that a worker ended stay, and each that it ends later goes by at least so many batches
pub record EndsLater (number : ℕ) (before after : Worker) : Type 0 where
  pub later : List EndedJob
  pub ended : after.ended ≡ before.ended ++ later
  pub follow : All (λ (ended : EndedJob). number ≤ ended.job.number) later

-- a job goes by no fewer batches than its worker had seen or heard of before it began
abbrev pub JobsGoByWhatWasSeen : Machine → Type 0
JobsGoByWhatWasSeen machine =
    Onward machine
    (λ service later.
    (index : ℕ) (before after : Worker) →
    worker_at service index ≡ Some before → worker_at later index ≡ Some after →
    before.job ≡ None → EndsLater before.seen before after)

-- what the worker at an index has seen
abbrev pub seen_by : Service → ℕ → ℕ
seen_by service index = option_map_or (λ (worker : Worker). worker.seen) (worker_at service index) 0

-- what a worker has seen never falls
abbrev pub SeenNeverFalls : Machine → Type 0
SeenNeverFalls machine = Onward machine (λ service later. (index : ℕ) → seen_by service index ≤ seen_by later index)

-- and is published
abbrev pub SeenIsPublished : Machine → Type 0
SeenIsPublished machine =
    Always machine (λ mirrors start events service. (index : ℕ) → seen_by service index ≤ length service.history)

-- the budget of a mirror after an event
abbrev pub budget_after : ℕ → Event → ℕ → ℕ
budget_after mirror (Raise raised bytes) budget = raised_budget raised bytes mirror budget
budget_after mirror event budget = budget

-- the budget of a mirror after some events: the highest one that it was given
abbrev pub budget_by : ℕ → List Event → ℕ → ℕ
budget_by mirror [] budget = budget
budget_by mirror (event ∷ events) budget = budget_by mirror events (budget_after mirror event budget)

-- the book of a mirror: its total is the sum of the workers' shares and within its current budget
pub record IsBooked (mirrors : List Mirror) (events : List Event) (service : Service) (mirror : ℕ) : Type 0 where
  pub adds_up : (service.books mirror).total ≡ sum_by (λ (worker : Worker). worker.share mirror) service.workers
  pub within : (service.books mirror).total ≤ (service.books mirror).budget
  pub budget : (service.books mirror).budget ≡ budget_by mirror events (budget_at mirrors mirror)

-- so is each book
abbrev pub TotalsAreWithinBudgets : Machine → Type 0
TotalsAreWithinBudgets machine =
    Always machine (λ mirrors start events service. (mirror : ℕ) → IsBooked mirrors events service mirror)

-- the mirrors after an event: a raise of a present budget to one that is no less changes it
abbrev pub mirrors_after : Event → List Mirror → List Mirror
mirrors_after (Raise raised bytes) mirrors =
    if nat_le (budget_at mirrors raised) bytes then raise_at mirrors raised bytes else mirrors
mirrors_after event mirrors = mirrors

-- the mirrors after some events
abbrev pub mirrors_by : List Event → List Mirror → List Mirror
mirrors_by [] mirrors = mirrors
mirrors_by (event ∷ events) mirrors = mirrors_by events (mirrors_after event mirrors)

-- the present mirrors are those that the raises left, each of which changed just the budget of one mirror
abbrev pub BudgetsAreThoseOfRaises : Machine → Type 0
BudgetsAreThoseOfRaises machine =
    Always machine (λ mirrors start events service. present mirrors service ≡ mirrors_by events mirrors)

-- a worker's share of a mirror is what the mirror granted for its jobs: for those that ended, with a reply or without
-- one, and for the one that it has
abbrev pub SharesAreOfJobs : Machine → Type 0
SharesAreOfJobs machine =
    Always machine
    (λ mirrors start events service.
    (mirror : ℕ) →
    All (λ (worker : Worker). worker.share mirror ≡ sum_by (granted_for mirror) (jobs_of worker)) service.workers)

-- what is published is accepted
abbrev pub PublishedIsAccepted : Machine → Type 0
PublishedIsAccepted machine = Always machine (λ mirrors start events service. IsAcceptedHistory service.history)

-- a history begins with another one
abbrev pub BeginsWith : History → History → Type 0
BeginsWith history begin = (rest : History) × (history ≡ begin ++ rest)

-- what is published stays so
abbrev pub PublishedStays : Machine → Type 0
PublishedStays machine = Onward machine (λ service later. BeginsWith later.history service.history)

-- the batch that an event publishes, if it is published
abbrev pub batch_given : Event → List (List Edit)
batch_given (Publish known batch) = batch ∷ []
batch_given event = []

-- the batches that some events publish, if they are published
abbrev pub batches_given : List Event → List (List Edit)
batches_given [] = []
batches_given (event ∷ events) = batch_given event ++ batches_given events

-- each published batch was there at the start, or given so, as a whole
abbrev pub BatchesArePublishedWhole : Machine → Type 0
BatchesArePublishedWhole machine =
    Always machine
    (λ mirrors start events service.
    All (λ (added : List Edit). Contains (start ++ batches_given events) added) service.history)

-- whoever publishes next, of whatever batches they know, gets what the definition says: a batch that is accepted and in
-- turn is published, and no other. Of the machine of the service this is the definition of its event `Publish` again; it
-- is here for wrong machines to be held against
abbrev pub BatchesArePublishedInTurn : Machine → Type 0
BatchesArePublishedInTurn machine =
    Always machine
    (λ mirrors start events service.
    (known : ℕ) (next : List Edit) →
    (machine mirrors service (Publish known next)).history ≡ published service.history known next)

-- each plan that an edition's program makes is one that a worker makes by certified rows: those of the edition's tables,
-- and for pinned clients those of the plan's own
abbrev pub PlansAreByPrices : Type 0
PlansAreByPrices =
    (history : History) (tables : List Certificate) (request : Request) (plan : Plan) →
    AreTables (content_of history) tables →
    IsPlanOf (content_of history) request plan →
    IsByPrices (content_of history) request (tables ++ plan.tables) plan.choices

-- for each request there are certified rows by the content of each history
abbrev pub RequestsHaveRows : Type 0
RequestsHaveRows =
    (history : History) (request : Request) → (tables : Tables) ×
    (are_certified (content_of history) request tables ≡ true)
