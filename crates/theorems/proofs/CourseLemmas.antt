-- What is kept of a worker's jobs: by which events each began, was planned and ended; and that each move keeps it.
use Rattle.std.proofs.Common.{◌≡◌, ℕ, zero, suc, List, [], ◌∷◌, ◌++◌, take, None, Some, refl, sym, ap, ◌∙◌, append_assoc, subst}
use Rattle.std.specs.List.{slice_get}
use Rattle.std.specs.Option.{IfSome}
use Rattle.std.proofs.lemmas.Option.{IfSome_then, none-some, same_Some}
use Rattle.omaha_json.specs.declared.request.Request.{Request}
use Rattle.theorems.specs.Choices.{Tables}
use Rattle.theorems.specs.Entries.{Course, GoesByPublished, Jobs, Turns, entered_job}
use Rattle.theorems.specs.Events.{Enter, Event, Plan, Render}
use Rattle.theorems.specs.Jobs.{EndedJob, Job, Pending, Rendered, Worker}
use Rattle.theorems.specs.Requests.{IsToItsRequest, request_of}

-- what holds of each item with those before it, also of one more at the end
pub each-push :
    {A : Type 0} (P : List A → A → Type 0) (items : List A) (new : A) →
    ((place : ℕ) (item : A) → slice_get items place ≡ Some item → P (take place items) item) → P items new →
    (place : ℕ) (item : A) → slice_get (items ++ new ∷ []) place ≡ Some item → P (take place (items ++ new ∷ [])) item
each-push P [] new all last zero item there = subst (P []) (same_Some new item there) last
each-push P [] new all last (suc place) item there = absurd (none-some item there)
each-push P (first ∷ items) new all last zero item there = all zero item there
each-push P (first ∷ items) new all last (suc place) item there =
    each-push (λ before. P (first ∷ before)) items new (λ at own is. all (suc at) own is) last place item there

-- a job that is planned for a request: by an event among some
pub record IsPlanned (course : Course) (index : ℕ) (events : List Event) (earlier : List EndedJob) (number : ℕ)
    (request : Request) : Type 0 where
  pub before_entry : List Event
  pub before_plan : List Event
  pub tables : Tables
  pub planned : Job
  pub entry : Turns course index before_plan before_entry (Enter index) (earlier, None) (earlier, Some (entered_job number))
  pub plan :
      Turns course index events before_plan (Plan index request tables) (earlier, Some (entered_job number))
      (earlier, Some planned)
  pub given : request_of planned ≡ Some request

-- the job that a worker has, after those that it ended
abbrev pub IsUnderWay : Course → ℕ → List Event → List EndedJob → Job → Type 0
IsUnderWay course index events earlier job =
    GoesByPublished course index events earlier job
    × IfSome job.pending (λ (p : Pending). IsPlanned course index events earlier job.number p.request)

-- a job that it ended
abbrev pub HasEnded : Course → ℕ → List Event → List EndedJob → EndedJob → Type 0
HasEnded course index events earlier ended =
    GoesByPublished course index events earlier ended.job
    × IfSome ended.rendered (IsToItsRequest course index events earlier ended.job)

pub record KeepsCourse (course : Course) (index : ℕ) (events : List Event) (worker : Worker) : Type 0 where
  pub job : IfSome worker.job (IsUnderWay course index events worker.ended)
  pub ended :
      (place : ℕ) (ended : EndedJob) → slice_get worker.ended place ≡ Some ended →
      HasEnded course index events (take place worker.ended) ended

-- more events keep it
module _ (course : Course) (index : ℕ) (events more : List Event) where
  Turns-longer :
      (before : List Event) (event : Event) (old new : Jobs) → Turns course index events before event old new →
      Turns course index (events ++ more) before event old new
  Turns-longer before event old new turns =
      record {
        after = turns.after ++ more;
        among = ap (λ (all : List Event). all ++ more) turns.among ∙ append_assoc before (event ∷ turns.after) more;
        from = turns.from;
        to = turns.to;
      }

  -- of a job of the same number
  pub GoesByPublished-longer :
      (earlier : List EndedJob) (job new : Job) → new.number ≡ job.number → GoesByPublished course index events earlier job →
      GoesByPublished course index (events ++ more) earlier new
  GoesByPublished-longer earlier job new same goes =
      record {
        before = goes.before;
        entry =
            subst
            (λ (n : ℕ). Turns course index (events ++ more) goes.before (Enter index) (earlier, None)
            (earlier, Some (entered_job n)))
            (sym same)
            (Turns-longer goes.before (Enter index) (earlier, None) (earlier, Some (entered_job job.number)) goes.entry);
        number = same ∙ goes.number;
      }

  pub IsPlanned-longer :
      (earlier : List EndedJob) (number : ℕ) (request : Request) →
      IsPlanned course index events earlier number request →
      IsPlanned course index (events ++ more) earlier number request
  IsPlanned-longer earlier number request is =
      record {
        before_entry = is.before_entry;
        before_plan = is.before_plan;
        tables = is.tables;
        planned = is.planned;
        entry = is.entry;
        plan =
            Turns-longer is.before_plan (Plan index request is.tables) (earlier, Some (entered_job number))
            (earlier, Some is.planned) is.plan;
        given = is.given;
      }

  IsToItsRequest-longer :
      (earlier : List EndedJob) (job : Job) (rendered : Rendered) →
      IsToItsRequest course index events earlier job rendered →
      IsToItsRequest course index (events ++ more) earlier job rendered
  IsToItsRequest-longer earlier job rendered is =
      record {
        before_entry = is.before_entry;
        before_plan = is.before_plan;
        before_rendering = is.before_rendering;
        request = is.request;
        tables = is.tables;
        planned = is.planned;
        entry = is.entry;
        plan = is.plan;
        rendering =
            Turns-longer is.before_rendering (Render index rendered.moment) (earlier, Some job)
            (earlier ++ record { job = job; rendered = Some rendered } ∷ [], None) is.rendering;
        given = is.given;
        kept = is.kept;
      }

  pub IsUnderWay-longer :
      (earlier : List EndedJob) (job : Job) → IsUnderWay course index events earlier job →
      IsUnderWay course index (events ++ more) earlier job
  IsUnderWay-longer earlier job way = (
    GoesByPublished-longer earlier job job refl way.0,
    IfSome_then job.pending way.1 (λ p is. IsPlanned-longer earlier job.number p.request is),
  )

  HasEnded-longer :
      (earlier : List EndedJob) (ended : EndedJob) → HasEnded course index events earlier ended →
      HasEnded course index (events ++ more) earlier ended
  HasEnded-longer earlier ended has = (
    GoesByPublished-longer earlier ended.job ended.job refl has.0,
    IfSome_then ended.rendered has.1 (IsToItsRequest-longer earlier ended.job),
  )

  pub KeepsCourse-longer : (worker : Worker) → KeepsCourse course index events worker →
      KeepsCourse course index (events ++ more) worker
  KeepsCourse-longer worker keeps =
      record {
        job = IfSome_then worker.job keeps.job (IsUnderWay-longer worker.ended);
        ended = λ place ended there. HasEnded-longer (take place worker.ended) ended (keeps.ended place ended there);
      }
