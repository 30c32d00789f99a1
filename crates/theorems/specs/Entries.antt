-- By which events the jobs of a worker began, and by which batches each goes.
use Rattle.std.specs.Prelude.{◌≡◌, ℕ, List, [], ◌∷◌, ◌++◌, IfSome, length, slice_get, take, Option, None, Some, option_map}
use Rattle.catalogue.specs.Histories.{History}
use Rattle.catalogue.specs.declared.mirror.Mirror.{Mirror}
use Rattle.theorems.specs.Events.{Enter, Event, Machine, service_after}
use Rattle.theorems.specs.Jobs.{EndedJob, Job, Worker}
use Rattle.theorems.specs.InterleavingLaws.{IsAcceptedHistory, worker_at}
use Rattle.theorems.specs.Services.{Service}

-- a course of events: what a service is after each list of them
abbrev pub Course : Type 0
Course = List Event → Service

-- what holds of each course since a service opened with an accepted history, for each list of events
abbrev pub EachCourse : Machine → (Course → List Event → Type 0) → Type 0
EachCourse machine Holds =
    (mirrors : List Mirror) (start : History) (workers : ℕ) (events : List Event) →
    IsAcceptedHistory start →
    Holds (service_after machine mirrors start workers) events

-- the jobs that a worker ended, and the one that it has
abbrev pub Jobs : Type 0
Jobs = List EndedJob × Option Job

-- those of the worker at an index, if there is one
abbrev pub jobs_at : Service → ℕ → Option Jobs
jobs_at service index = option_map (λ (worker : Worker). (worker.ended, worker.job)) (worker_at service index)

-- one of some events, with those before it: by it the jobs of a worker became new ones
pub record Turns (course : Course) (index : ℕ) (events before : List Event) (event : Event)
    (old new : Jobs) : Type 0 where
  pub after : List Event
  pub among : events ≡ before ++ event ∷ after
  pub from : jobs_at (course before) index ≡ Some old
  pub to : jobs_at (course (before ++ event ∷ [])) index ≡ Some new

-- a job that isn't planned yet
abbrev pub entered_job : ℕ → Job
entered_job number = record { number = number; pending = None }

-- a job of a worker that had ended the earlier ones: it began by an entry of the worker, which had no job, and goes by
-- all batches that were published then
pub record GoesByPublished (course : Course) (index : ℕ) (events : List Event) (earlier : List EndedJob)
    (job : Job) : Type 0 where
  pub before : List Event
  pub entry :
      Turns course index events before (Enter index) (earlier, None) (earlier, Some (entered_job job.number))
  pub number : job.number ≡ length (course before).history

-- what holds of each job of a worker, with the jobs that it ended before
abbrev pub EachJob : (List EndedJob → Job → Type 0) → Worker → Type 0
EachJob Holds worker =
    ((place : ℕ) (ended : EndedJob) →
    slice_get worker.ended place ≡ Some ended → Holds (take place worker.ended) ended.job)
    × IfSome worker.job (Holds worker.ended)

-- each job goes by what was published when it began
abbrev pub JobsGoByWhatIsPublished : Machine → Type 0
JobsGoByWhatIsPublished machine =
    EachCourse machine
    (λ course events.
    (index : ℕ) (worker : Worker) →
    worker_at (course events) index ≡ Some worker →
    EachJob (GoesByPublished course index events) worker)
