-- To which request each reply is, and at which time.
use Rattle.std.specs.Prelude.{◌≡◌, ℕ, List, [], ◌∷◌, ◌++◌, IfSome, slice_get, take, Option, None, Some, option_map}
use Rattle.omaha_json.specs.declared.request.Request.{Request}
use Rattle.theorems.specs.Choices.{Tables}
use Rattle.theorems.specs.Entries.{Course, EachCourse, Turns, entered_job}
use Rattle.theorems.specs.Events.{Enter, Event, Machine, Plan, Render}
use Rattle.theorems.specs.Jobs.{EndedJob, Job, Pending, Rendered, Worker}
use Rattle.theorems.specs.InterleavingLaws.{worker_at}

-- the request that a job is planned for, if it is planned
abbrev pub request_of : Job → Option Request
request_of job = option_map (λ (pending : Pending). pending.request) job.pending

-- a job of a worker that had ended the earlier ones, and its reply: among some events the worker entered the job, then
-- planned it, for this request, and then rendered, at the reply's time, by which the job ended; each of these took
-- effect, and the worker ended no other job in between
pub record IsToItsRequest (course : Course) (index : ℕ) (events : List Event) (earlier : List EndedJob) (job : Job)
    (rendered : Rendered) : Type 0 where
  pub before_entry : List Event
  pub before_plan : List Event
  pub before_rendering : List Event
  pub request : Request
  pub tables : Tables
  pub planned : Job
  pub entry :
      Turns course index before_plan before_entry (Enter index) (earlier, None)
      (earlier, Some (entered_job job.number))
  pub plan :
      Turns course index before_rendering before_plan (Plan index request tables)
      (earlier, Some (entered_job job.number)) (earlier, Some planned)
  pub rendering :
      Turns course index events before_rendering (Render index rendered.moment) (earlier, Some job)
      (earlier ++ record { job = job; rendered = Some rendered } ∷ [], None)
  pub given : request_of planned ≡ Some request
  pub kept : request_of job ≡ Some request

-- each reply is to the request that its worker was given for this job, at the time at which the worker ended the job
abbrev pub RepliesAreToGivenRequests : Machine → Type 0
RepliesAreToGivenRequests machine =
    EachCourse machine
    (λ course events.
    (index : ℕ) (worker : Worker) →
    worker_at (course events) index ≡ Some worker →
    (place : ℕ) (ended : EndedJob) →
    slice_get worker.ended place ≡ Some ended →
    IfSome ended.rendered (IsToItsRequest course index events (take place worker.ended) ended.job))
