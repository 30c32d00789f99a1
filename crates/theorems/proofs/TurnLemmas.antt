-- Each move of a worker keeps by which events its jobs began, were planned and ended.
use Rattle.std.proofs.Common.{◌≡◌, ℕ, ◌&&◌, leb, max, List, [], ◌∷◌, ◌++◌, length, take, Option, None, Some, refl, sym, ap, ◌∙◌, subst}
use Rattle.std.specs.List.{slice_get}
use Rattle.std.specs.Option.{IfSome, is_none, option_map, option_map_or}
use Rattle.std.proofs.lemmas.Bool.{and_parts, cond_both}
use Rattle.catalogue.specs.Histories.{History}
use Rattle.omaha_json.specs.declared.request.Request.{Request}
use Rattle.catalogue.specs.declared.mirror.Mirror.{Mirror}
use Rattle.theorems.specs.Choices.{Tables, are_certified}
use Rattle.theorems.specs.Entries.{Course, GoesByPublished, Turns, entered_job}
use Rattle.theorems.specs.Events.{Enter, Event, Plan, Render}
use Rattle.theorems.specs.Jobs.{EndedJob, Job, Pending, Rendered, Worker, is_decided}
use Rattle.theorems.specs.InterleavingLaws.{worker_at}
use Rattle.theorems.specs.Moves.{after_drop, after_entry, after_news, after_plan, after_rendering, begun, planned_by, rendered_at, sent, with_pending, without_job}
use Rattle.theorems.specs.Requests.{IsToItsRequest}
use Rattle.theorems.specs.Services.{content_at}
use Rattle.theorems.proofs.ListLemmas.{none-is}
use Rattle.theorems.proofs.CourseLemmas.{GoesByPublished-longer, HasEnded, IsPlanned, IsPlanned-longer, IsUnderWay, IsUnderWay-longer, KeepsCourse, KeepsCourse-longer, each-push}

-- a worker moves by an event
module _ (course : Course) (index : ℕ) (events : List Event) (event : Event) (old : Worker)
    (was : worker_at (course events) index ≡ Some old) (keeps : KeepsCourse course index events old) where
  abbrev further : List Event
  further = events ++ event ∷ []

  abbrev Becomes : Worker → Type 0
  Becomes new = worker_at (course further) index ≡ Some new → KeepsCourse course index further new

  -- the event took effect
  turned :
      (own : Event) (new : Worker) → event ≡ own → worker_at (course further) index ≡ Some new →
      Turns course index further events own (old.ended, old.job) (new.ended, new.job)
  turned own new is now =
      let jobs = λ (o : Option Worker). option_map (λ (w : Worker). (w.ended, w.job)) o in
      subst (λ (e : Event). Turns course index further events e (old.ended, old.job) (new.ended, new.job)) is
      (record { after = []; among = refl; from = ap jobs was; to = ap jobs now })

  -- from a job that is known
  turned-from :
      (own : Event) (new : Worker) (job : Option Job) → event ≡ own → old.job ≡ job →
      worker_at (course further) index ≡ Some new →
      Turns course index further events own (old.ended, job) (new.ended, new.job)
  turned-from own new job is job_is now =
      subst (λ (o : Option Job). Turns course index further events own (old.ended, o) (new.ended, new.job)) job_is
      (turned own new is now)

  still-ended :
      (place : ℕ) (ended : EndedJob) → slice_get old.ended place ≡ Some ended →
      HasEnded course index further (take place old.ended) ended
  still-ended = (KeepsCourse-longer course index events (event ∷ []) old keeps).ended

  pub still : Becomes old
  still now = KeepsCourse-longer course index events (event ∷ []) old keeps

  pub entry : event ≡ Enter index → Becomes (after_entry (length (course events).history) old)
  entry is =
      let count = length (course events).history in
      let new : Worker = record old { seen = count; job = Some (entered_job count) } in
      cond_both (is_none old.job) new old Becomes
      (λ idle now. record {
        job = (
          record {
            before = events;
            entry = turned-from (Enter index) new None is (none-is old.job idle) now;
            number = refl;
          },
          tt,
        );
        ended = still-ended;
      })
      (λ busy. still)

  pub news : (published number : ℕ) → Becomes (after_news published number old)
  news published number =
      let longer = KeepsCourse-longer course index events (event ∷ []) old keeps in
      cond_both (is_none old.job && leb number published) (record old { seen = max old.seen number }) old Becomes
      (λ test now. record { job = longer.job; ended = longer.ended }) (λ test. still)

  -- the reply in the making becomes another one to the same request
  pub pending-kept :
      (change : Pending → Pending) (share : ℕ → ℕ) → ((p : Pending) → (change p).request ≡ p.request) →
      Becomes (record (with_pending change old) { share = share })
  pending-kept change share same now = record { job = by_job old.job keeps.job; ended = still-ended }
    where
      by_pending : (number : ℕ) (pending : Option Pending) →
          IfSome pending (λ (p : Pending). IsPlanned course index events old.ended number p.request) →
          IfSome (option_map change pending) (λ (p : Pending). IsPlanned course index further old.ended number p.request)
      by_pending number None planned = tt
      by_pending number (Some p) planned =
          subst (IsPlanned course index further old.ended number) (sym (same p))
          (IsPlanned-longer course index events (event ∷ []) old.ended number p.request planned)

      by_job : (job : Option Job) → IfSome job (IsUnderWay course index events old.ended) →
          IfSome (option_map (λ (j : Job). record j { pending = option_map change j.pending }) job)
          (IsUnderWay course index further old.ended)
      by_job None way = tt
      by_job (Some job) way = (
        GoesByPublished-longer course index events (event ∷ []) old.ended job
            (record job { pending = option_map change job.pending }) refl way.0,
        by_pending job.number job.pending way.1,
      )

  pub plan : (history : History) (request : Request) (tables : Tables) → event ≡ Plan index request tables →
      Becomes (after_plan history request tables old)
  plan history request tables is = by_job old.job refl keeps.job
    where
      by_job : (job : Option Job) → old.job ≡ job → IfSome job (IsUnderWay course index events old.ended) →
          Becomes
          (record old { job = option_map (λ (j : Job). planned_by (content_at history j.number) request tables j) job })
      by_job None job_is way = λ now. record { job = tt; ended = still-ended }
      by_job (Some job) job_is way =
          let apps = content_at history job.number in
          let new : Job = record job { pending = Some (begun apps request tables) } in
          cond_both (is_none job.pending && are_certified apps request tables) new job
          (λ (j : Job). Becomes (record old { job = Some j }))
          (λ test now.
          let none = none-is job.pending (and_parts (is_none job.pending) (are_certified apps request tables) test).0 in
          record {
            job = (
              GoesByPublished-longer course index events (event ∷ []) old.ended job new refl way.0,
              record {
                before_entry = way.0.before;
                before_plan = events;
                tables = tables;
                planned = new;
                entry = way.0.entry;
                plan =
                    turned-from (Plan index request tables) (record old { job = Some new })
                    (Some (entered_job job.number)) is
                    (job_is ∙ ap (λ (o : Option Pending). Some (record { number = job.number; pending = o })) none) now;
                given = refl;
              },
            );
            ended = still-ended;
          })
          (λ test now. record {
            job = IsUnderWay-longer course index events (event ∷ []) old.ended job way;
            ended = still-ended;
          })

  ends :
      (rendered : Option Rendered) (job : Job) → GoesByPublished course index events old.ended job →
      IfSome rendered (IsToItsRequest course index further old.ended job) →
      KeepsCourse course index further (without_job rendered job old)
  ends rendered job goes well =
      let ended : EndedJob = record { job = job; rendered = rendered } in
      record {
        job = tt;
        ended =
            each-push (HasEnded course index further) old.ended ended still-ended
            (GoesByPublished-longer course index events (event ∷ []) old.ended job job refl goes, well);
      }

  pub drop : Becomes (after_drop old)
  drop = by_job old.job keeps.job
    where
      by_job : (job : Option Job) → IfSome job (IsUnderWay course index events old.ended) →
          Becomes (option_map_or (λ (j : Job). without_job None j old) job old)
      by_job None way = still
      by_job (Some job) way = λ now. ends None job way.0 tt

  pub rendering : (mirrors : List Mirror) (history : History) (moment : ℕ) → event ≡ Render index moment →
      Becomes (after_rendering mirrors history moment old)
  rendering mirrors history moment is = by_job old.job refl keeps.job
    where
      by_pending : (job : Job) (pending : Option Pending) → old.job ≡ Some job → job.pending ≡ pending →
          GoesByPublished course index events old.ended job →
          IfSome pending (λ (p : Pending). IsPlanned course index events old.ended job.number p.request) →
          Becomes (option_map_or (sent mirrors history moment old job) pending old)
      by_pending job None job_is pending_is goes planned = still
      by_pending job (Some p) job_is pending_is goes planned =
          let reply = rendered_at mirrors (content_at history job.number) moment p in
          cond_both (is_decided p) (without_job (Some reply) job old) old Becomes
          (λ decided now.
          ends (Some reply) job goes
          (record {
            before_entry = planned.before_entry;
            before_plan = planned.before_plan;
            before_rendering = events;
            request = p.request;
            tables = planned.tables;
            planned = planned.planned;
            entry = planned.entry;
            plan = planned.plan;
            rendering =
                turned-from (Render index moment) (without_job (Some reply) job old) (Some job) is job_is now;
            given = planned.given;
            kept = ap (λ (o : Option Pending). option_map (λ (q : Pending). q.request) o) pending_is;
          }))
          (λ undecided. still)

      by_job : (job : Option Job) → old.job ≡ job → IfSome job (IsUnderWay course index events old.ended) →
          Becomes
          (option_map_or (λ (j : Job). option_map_or (sent mirrors history moment old j) j.pending old) job old)
      by_job None job_is way = still
      by_job (Some job) job_is way = by_pending job job.pending job_is refl way.0 way.1
