-- Wrong machines, and the law that each of them breaks. Each differs from the machine of the service in one event.
use Rattle.std.specs.Prelude.{ℕ, ◌+◌, if◌then◌else◌, List, [], ◌∷◌, ◌++◌, length, map, max, take, Option, None, Some, option_map}
use Rattle.std.specs.Option.{option_map_or}
use Rattle.editions.specs.Editions.{content_of}
use Rattle.omaha_json.specs.declared.request.Request.{Request}
use Rattle.replies.specs.declared.choices.Choice.{Choice}
use Rattle.theorems.specs.Entries.{JobsGoByWhatIsPublished, entered_job}
use Rattle.theorems.specs.Events.{Drop, Enter, Grant, Learn, Machine, Plan, Publish, Raise, Reject, Render, asks, granted, happens, moved, rejected}
use Rattle.theorems.specs.Headline.{OffersLeadToTargets, RepliesSayTrue}
use Rattle.theorems.specs.Jobs.{EndedJob, Job, Pending, Rendered, Worker}
use Rattle.theorems.specs.InterleavingLaws.{BatchesArePublishedInTurn, BatchesArePublishedWhole, JobsGoByWhatWasSeen, PublishedIsAccepted, PublishedStays, RepliesAreOfOneCatalogue, SeenIsPublished, SeenNeverFalls, SharesAreOfJobs, TotalsAreWithinBudgets}
use Rattle.theorems.specs.Moves.{after_entry, after_plan, after_rendering, begun, planned_by, rendered_at, with_outcome, with_pending, without_job}
use Rattle.theorems.specs.Requests.{RepliesAreToGivenRequests}
use Rattle.theorems.specs.Services.{content_at, published, with_grant}

-- a worker that has a job in the making ends it with a reply, whatever the outcomes
abbrev pub ends_job_by : (Job → Pending → Rendered) → Worker → Job → Worker
ends_job_by render worker job =
    option_map_or (λ (pending : Pending). without_job (Some (render job pending)) job worker) job.pending worker

abbrev pub ends_by : (Job → Pending → Rendered) → Worker → Worker
ends_by render worker = option_map_or (ends_job_by render worker) worker.job worker

-- a worker's job changes
abbrev pub with_job : (Job → Job) → Worker → Worker
with_job change worker = record worker { job = option_map change worker.job }

-- renders by the newest catalogue what was planned by an older one
abbrev pub renders_by_the_newest : Machine
renders_by_the_newest mirrors service (Render worker moment) =
    moved worker (ends_by (λ job. rendered_at mirrors (content_of service.history) moment)) service
renders_by_the_newest mirrors service event = happens mirrors service event

-- renders before all choices have their outcomes
abbrev pub renders_undecided : Machine
renders_undecided mirrors service (Render worker moment) =
    moved worker (ends_by (λ job. rendered_at mirrors (content_at service.history job.number) moment)) service
renders_undecided mirrors service event = happens mirrors service event

-- plans by the newest catalogue a job that entered an older one
abbrev pub plans_by_the_newest : Machine
plans_by_the_newest mirrors service (Plan worker request tables) =
    moved worker (with_job (planned_by (content_of service.history) request tables)) service
plans_by_the_newest mirrors service event = happens mirrors service event

-- plans by rows that nobody checked
abbrev pub plans_by_any_rows : Machine
plans_by_any_rows mirrors service (Plan worker request tables) =
    moved worker
    (with_job (λ job. record job { pending = Some (begun (content_at service.history job.number) request tables) }))
    service
plans_by_any_rows mirrors service event = happens mirrors service event

-- gives a request to another worker
abbrev pub plans_for_another : Machine
plans_for_another mirrors service (Plan worker request tables) =
    moved (worker + 1) (after_plan service.history request tables) service
plans_for_another mirrors service event = happens mirrors service event

-- renders for another time
abbrev pub renders_for_another_time : Machine
renders_for_another_time mirrors service (Render worker moment) =
    moved worker (after_rendering mirrors service.history (moment + 86400)) service
renders_for_another_time mirrors service event = happens mirrors service event

-- the request of the last planned one of some jobs, else another request
abbrev pub last_request : Request → List EndedJob → Request
last_request request [] = request
last_request request (ended ∷ later) =
    last_request (option_map_or (λ (pending : Pending). pending.request) ended.job.pending request) later

-- plans the request that the worker replied to before
abbrev pub plans_the_previous_request : Machine
plans_the_previous_request mirrors service (Plan worker request tables) =
    moved worker (λ (w : Worker). after_plan service.history (last_request request w.ended) tables w) service
plans_the_previous_request mirrors service event = happens mirrors service event

-- plans a job again that is planned already
abbrev pub plans_again : Machine
plans_again mirrors service (Plan worker request tables) =
    moved worker
    (with_job (λ job. planned_by (content_at service.history job.number) request tables (entered_job job.number)))
    service
plans_again mirrors service event = happens mirrors service event

-- the time of the last reply of some jobs, else another time
abbrev pub last_time : ℕ → List EndedJob → ℕ
last_time moment [] = moment
last_time moment (ended ∷ later) =
    last_time (option_map_or (λ (rendered : Rendered). rendered.moment) ended.rendered moment) later

-- renders at the time of the worker's previous reply
abbrev pub renders_at_the_previous_time : Machine
renders_at_the_previous_time mirrors service (Render worker moment) =
    moved worker (λ (w : Worker). after_rendering mirrors service.history (last_time moment w.ended) w) service
renders_at_the_previous_time mirrors service event = happens mirrors service event

-- a reply in the making for which nothing was chosen
abbrev pub without_choices : Pending → Pending
without_choices pending = record pending { choices = map (λ (choice : Option Choice). None) pending.choices }

-- replies `noupdate` to each client
abbrev pub says_no_update : Machine
says_no_update mirrors service (Render worker moment) =
    moved worker
    (ends_by (λ job pending.
    rendered_at mirrors (content_at service.history job.number) moment (without_choices pending)))
    service
says_no_update mirrors service event = happens mirrors service event

-- offers packages that are at no mirror
abbrev pub offers_from_no_mirror : Machine
offers_from_no_mirror mirrors service (Render worker moment) =
    moved worker (ends_by (λ job. rendered_at [] (content_at service.history job.number) moment)) service
offers_from_no_mirror mirrors service event = happens mirrors service event

-- enters what the worker had seen, whatever is published
abbrev pub enters_what_was_seen : Machine
enters_what_was_seen mirrors service (Enter worker) =
    moved worker (λ (w : Worker). after_entry w.seen w) service
enters_what_was_seen mirrors service event = happens mirrors service event

-- keeps to the first catalogue, whatever was seen
abbrev pub keeps_the_first_catalogue : Machine
keeps_the_first_catalogue mirrors service (Enter worker) = moved worker (after_entry 1) service
keeps_the_first_catalogue mirrors service event = happens mirrors service event

-- believes each number that it hears of
abbrev pub believes_any_number : Machine
believes_any_number mirrors service (Learn worker number) =
    moved worker (λ (w : Worker). record w { seen = max w.seen number }) service
believes_any_number mirrors service event = happens mirrors service event

-- forgets what the worker had seen, and believes the last number that it hears of
abbrev pub forgets_what_was_seen : Machine
forgets_what_was_seen mirrors service (Learn worker number) =
    moved worker (λ (w : Worker). record w { seen = number }) service
forgets_what_was_seen mirrors service event = happens mirrors service event

-- grants without room
abbrev pub grants_without_room : Machine
grants_without_room mirrors service (Grant worker mirror bytes) =
    if asks mirrors service worker mirror bytes then granted worker mirror bytes service else service
grants_without_room mirrors service event = happens mirrors service event

-- grants bytes and leaves the worker's share as it was
abbrev pub leaves_the_share : Machine
leaves_the_share mirrors service (Grant worker mirror bytes) =
    record (moved worker (with_pending (with_outcome (Some mirror))) service) {
      books = with_grant service.books mirror bytes;
    }
leaves_the_share mirrors service event = happens mirrors service event

-- books bytes that a mirror rejects
abbrev pub books_what_is_rejected : Machine
books_what_is_rejected mirrors service (Reject worker mirror bytes) =
    if asks mirrors service worker mirror bytes
    then record (rejected mirrors worker mirror service) { books = with_grant service.books mirror bytes }
    else service
books_what_is_rejected mirrors service event = happens mirrors service event

-- cuts a budget below what was granted
abbrev pub cuts_a_budget : Machine
cuts_a_budget mirrors service (Raise mirror bytes) =
    record service { books = λ index. record (service.books index) { budget = bytes } }
cuts_a_budget mirrors service event = happens mirrors service event

-- forgets a job that is dropped
abbrev pub forgets_dropped_jobs : Machine
forgets_dropped_jobs mirrors service (Drop worker) = moved worker (λ (w : Worker). record w { job = None }) service
forgets_dropped_jobs mirrors service event = happens mirrors service event

-- publishes the first edit of a batch alone
abbrev pub publishes_half_a_batch : Machine
publishes_half_a_batch mirrors service (Publish known batch) =
    record service { history = published service.history known (take 1 batch) }
publishes_half_a_batch mirrors service event = happens mirrors service event

-- publishes a batch with a rejected edit
abbrev pub publishes_rejected_batches : Machine
publishes_rejected_batches mirrors service (Publish known batch) =
    record service { history = service.history ++ batch ∷ [] }
publishes_rejected_batches mirrors service event = happens mirrors service event

-- publishes a batch whose publisher did not know of the last one
abbrev pub publishes_late_batches : Machine
publishes_late_batches mirrors service (Publish known batch) =
    record service { history = published service.history (length service.history) batch }
publishes_late_batches mirrors service event = happens mirrors service event

-- publishes a batch in the place of those that its publisher didn't know of
abbrev pub publishes_over_unknown_batches : Machine
publishes_over_unknown_batches mirrors service (Publish known batch) =
    record service { history = published (take known service.history) known batch }
publishes_over_unknown_batches mirrors service event = happens mirrors service event

-- publishes nothing
abbrev pub never_publishes : Machine
never_publishes mirrors service (Publish known batch) = service
never_publishes mirrors service event = happens mirrors service event

-- each of them breaks a law
pub record PlansAndRepliesBreak : Type 0 where
  pub newest_reply : ¬ (RepliesAreOfOneCatalogue renders_by_the_newest)
  pub undecided : ¬ (RepliesAreOfOneCatalogue renders_undecided)
  pub newest_plan : ¬ (RepliesAreOfOneCatalogue plans_by_the_newest)
  pub unchecked : ¬ (RepliesAreOfOneCatalogue plans_by_any_rows)
  pub untrue : ¬ (RepliesSayTrue says_no_update)
  pub nowhere : ¬ (OffersLeadToTargets offers_from_no_mirror)

pub record RequestsBreak : Type 0 where
  pub another : ¬ (RepliesAreToGivenRequests plans_for_another)
  pub previous : ¬ (RepliesAreToGivenRequests plans_the_previous_request)
  pub again : ¬ (RepliesAreToGivenRequests plans_again)
  pub another_time : ¬ (RepliesAreToGivenRequests renders_for_another_time)
  pub previous_time : ¬ (RepliesAreToGivenRequests renders_at_the_previous_time)

pub record EntriesBreak : Type 0 where
  pub old : ¬ (JobsGoByWhatIsPublished enters_what_was_seen)
  pub first : ¬ (JobsGoByWhatWasSeen keeps_the_first_catalogue)
  pub untrue : ¬ (SeenIsPublished believes_any_number)
  pub forgotten : ¬ (SeenNeverFalls forgets_what_was_seen)

pub record GrantsBreak : Type 0 where
  pub no_room : ¬ (TotalsAreWithinBudgets grants_without_room)
  pub share : ¬ (TotalsAreWithinBudgets leaves_the_share)
  pub rejected : ¬ (TotalsAreWithinBudgets books_what_is_rejected)
  pub lowered : ¬ (TotalsAreWithinBudgets cuts_a_budget)
  pub forgotten : ¬ (SharesAreOfJobs forgets_dropped_jobs)

pub record PublishesBreak : Type 0 where
  pub half : ¬ (BatchesArePublishedWhole publishes_half_a_batch)
  pub rejected : ¬ (PublishedIsAccepted publishes_rejected_batches)
  pub lost : ¬ (PublishedStays publishes_over_unknown_batches)
  pub late : ¬ (BatchesArePublishedInTurn publishes_late_batches)
  pub never : ¬ (BatchesArePublishedInTurn never_publishes)
