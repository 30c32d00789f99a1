-- What becomes of a worker, move by move. A move whose condition fails leaves the worker as it is.
use Rattle.std.specs.Prelude.{ℕ, ◌+◌, ◌==◌, ◌&&◌, Bool, false, if◌then◌else◌, List, [], ◌∷◌, ◌++◌, is_none, length, max, nat_le, nat_lt, slice_get, Option, None, Some, option_map}
use Rattle.std.specs.Option.{option_map_or}
use Rattle.catalogue.specs.Histories.{History}
use Rattle.mirror_ledger.specs.Asks.{booked}
use Rattle.omaha_json.specs.declared.reply.Reply.{Reply}
use Rattle.omaha_json.specs.declared.request.Request.{Request}
use Rattle.catalogue.specs.declared.content.App.{App}
use Rattle.catalogue.specs.declared.mirror.Mirror.{Mirror}
use Rattle.replies.specs.Plans.{payloads_of}
use Rattle.replies.specs.Replies.{reply_of}
use Rattle.theorems.specs.Choices.{Tables, are_certified, choices_of}
use Rattle.theorems.specs.Jobs.{Job, Pending, Rendered, Worker, bytes_asked, is_decided, outcomes_of}
use Rattle.theorems.specs.Services.{content_at}

-- a worker without a job begins one at a number of batches, which it has then seen
abbrev pub after_entry : ℕ → Worker → Worker
after_entry number worker =
    if is_none worker.job
    then record worker { seen = number; job = Some (record { number = number; pending = None }) }
    else worker

-- a worker without a job hears of a number of batches that are published
abbrev pub after_news : ℕ → ℕ → Worker → Worker
after_news published number worker =
    if is_none worker.job && nat_le number published
    then record worker { seen = max worker.seen number }
    else worker

-- the reply in the making to a request, before anything is asked
abbrev pub begun : List App → Request → Tables → Pending
begun apps request tables =
    record { request = request; choices = choices_of apps request tables; outcomes = []; tried = 0 }

-- a job that isn't planned yet is planned by certified rows
abbrev pub planned_by : List App → Request → Tables → Job → Job
planned_by apps request tables job =
    if is_none job.pending && are_certified apps request tables
    then record job { pending = Some (begun apps request tables) }
    else job

-- the worker plans its job by what the job entered
abbrev pub after_plan : History → Request → Tables → Worker → Worker
after_plan history request tables worker =
    record worker {
      job = option_map (λ (job : Job). planned_by (content_at history job.number) request tables job) worker.job;
    }

-- the next choice without an outcome has these bytes, and the mirror is the first that wasn't asked for them
abbrev pub asks_next : List Mirror → ℕ → ℕ → Pending → Bool
asks_next mirrors mirror bytes pending =
    option_map_or (λ size. size == bytes) (slice_get (bytes_asked pending.choices) (length pending.outcomes)) false
    && (mirror == pending.tried && nat_lt mirror (length mirrors))

-- so it is for the worker's job
abbrev pub is_asking : List Mirror → ℕ → ℕ → Worker → Bool
is_asking mirrors mirror bytes worker =
    option_map_or (λ (job : Job). option_map_or (asks_next mirrors mirror bytes) job.pending false) worker.job false

-- the next choice has an outcome
abbrev pub with_outcome : Option ℕ → Pending → Pending
with_outcome outcome pending = record pending { outcomes = pending.outcomes ++ outcome ∷ []; tried = 0 }

-- a mirror had no room for the next choice: the one after it is next, and after the last one no mirror grants it
abbrev pub after_rejection : List Mirror → ℕ → Pending → Pending
after_rejection mirrors mirror pending =
    if mirror + 1 == length mirrors then with_outcome None pending else record pending { tried = mirror + 1 }

-- the reply that the worker has in the making changes
abbrev pub with_pending : (Pending → Pending) → Worker → Worker
with_pending change worker =
    record worker {
      job = option_map (λ (job : Job). record job { pending = option_map change job.pending }) worker.job;
    }

-- a mirror granted the bytes of the next choice
abbrev pub after_grant : ℕ → ℕ → Worker → Worker
after_grant mirror bytes worker =
    record (with_pending (with_outcome (Some mirror)) worker) {
      share = λ index. worker.share index + booked index bytes (Some mirror);
    }

-- the worker's job ends, with a reply or without one
abbrev pub without_job : Option Rendered → Job → Worker → Worker
without_job rendered job worker =
    record worker { job = None; ended = worker.ended ++ record { job = job; rendered = rendered } ∷ [] }

-- the reply to a request by a content, its choices and their outcomes
abbrev pub reply_by : List Mirror → List App → ℕ → Pending → Reply
reply_by mirrors apps moment pending =
    reply_of apps pending.request (payloads_of pending.choices) (outcomes_of pending) mirrors moment

-- the same reply with its time
abbrev pub rendered_at : List Mirror → List App → ℕ → Pending → Rendered
rendered_at mirrors apps moment pending = record { moment = moment; reply = reply_by mirrors apps moment pending }

-- a job ends with its reply, once each choice has its outcome
abbrev pub sent : List Mirror → History → ℕ → Worker → Job → Pending → Worker
sent mirrors history moment worker job pending =
    if is_decided pending
    then without_job (Some (rendered_at mirrors (content_at history job.number) moment pending)) job worker
    else worker

-- the worker renders the reply of its job, if that is planned
abbrev pub after_rendering : List Mirror → History → ℕ → Worker → Worker
after_rendering mirrors history moment worker =
    option_map_or
    (λ (job : Job). option_map_or (sent mirrors history moment worker job) job.pending worker)
    worker.job worker

-- the worker ends its job without a reply
abbrev pub after_drop : Worker → Worker
after_drop worker = option_map_or (λ (job : Job). without_job None job worker) worker.job worker
