-- What holds of a service after each event, and how its workers go on.
use Rattle.std.proofs.Common.{◌≡◌, ℕ, ◌<◌, ◌≤◌, ◌⊎◌, inl, inr, List, [], ◌++◌, length, take, drop, Option, None, Some, Result, Ok, Err, refl, sym, ap, ◌∙◌, append_assoc, subst, arith}
use Rattle.std.specs.List.{AllByRecursion, sum_by}
use Rattle.std.specs.Option.{IfSome, option_map}
use Rattle.std.proofs.lemmas.List.{append-nil, length-append, take-append-drop, take-append-le}
use Rattle.std.proofs.lemmas.Option.{IfSome_then, none-some}
use Rattle.catalogue.specs.Batches.{run}
use Rattle.catalogue.specs.declared.fault.Refused.{Refused}
use Rattle.catalogue.specs.Histories.{HistoriesAreValid, History, LeadsTo, PrefixesAreAccepted}
use Rattle.editions.specs.Editions.{content_of, content_or_none}
use Rattle.catalogue.specs.Validity.{IsValid}
use Rattle.catalogue.specs.declared.content.App.{App}
use Rattle.catalogue.specs.declared.mirror.Mirror.{Mirror}
use Rattle.replies.specs.Plans.{IsPlan}
use Rattle.theorems.specs.Jobs.{EndedJob, Job, Pending, Rendered, Worker, granted_for, jobs_of, outcomes_of}
use Rattle.theorems.specs.InterleavingLaws.{EndsWell, IsAcceptedHistory, IsOfOneCatalogue, IsReplyOf}
use Rattle.theorems.specs.Services.{Service, content_at}
use Rattle.theorems.proofs.ListLemmas.{all-append, all-weaker}

-- an outcome names one of the mirrors, or none
abbrev pub IsNamed : List Mirror → Option ℕ → Type 0
IsNamed mirrors outcome = IfSome outcome (λ mirror. mirror < length mirrors)

pub record KeepsPending (mirrors : List Mirror) (apps : List App) (pending : Pending) : Type 0 where
  pub planned : IsPlan apps pending.request pending.choices
  pub named : AllByRecursion (IsNamed mirrors) pending.outcomes

pub record KeepsJob (mirrors : List Mirror) (history : History) (job : Job) : Type 0 where
  pub some : 1 ≤ job.number
  pub published : job.number ≤ length history
  pub pending : IfSome job.pending (KeepsPending mirrors (content_at history job.number))

pub record KeepsWorker (mirrors : List Mirror) (history : History) (worker : Worker) : Type 0 where
  pub seen : worker.seen ≤ length history
  pub job : IfSome worker.job (KeepsJob mirrors history)
  pub ended : AllByRecursion (EndsWell mirrors history) worker.ended
  pub shares : (mirror : ℕ) → worker.share mirror ≡ sum_by (granted_for mirror) (jobs_of worker)

pub record KeepsBook (service : Service) (mirror : ℕ) : Type 0 where
  pub adds_up : (service.books mirror).total ≡ sum_by (λ (worker : Worker). worker.share mirror) service.workers
  pub within : (service.books mirror).total ≤ (service.books mirror).budget

pub record Keeps (mirrors : List Mirror) (service : Service) : Type 0 where
  pub accepted : IsAcceptedHistory service.history
  pub workers : AllByRecursion (KeepsWorker mirrors service.history) service.workers
  pub books : (mirror : ℕ) → KeepsBook service mirror

-- a number of batches is that of a worker's job, or not below what the worker has seen
abbrev pub IsAfter : Worker → ℕ → Type 0
IsAfter worker number = (option_map (λ (job : Job). job.number) worker.job ≡ Some number) ⊎ (worker.seen ≤ number)

-- how a worker goes on: it forgets nothing that it saw, and the job that it has and those that it ended since are the
-- one that it had, or later ones
pub record GoesOn (old new : Worker) : Type 0 where
  pub seen : old.seen ≤ new.seen
  pub job : IfSome new.job (λ (job : Job). IsAfter old job.number)
  pub later : List EndedJob
  pub ended : new.ended ≡ old.ended ++ later
  pub follow : AllByRecursion (λ (ended : EndedJob). IsAfter old ended.job.number) later

IsAfter-own : (worker : Worker) → IfSome worker.job (λ (job : Job). IsAfter worker job.number)
IsAfter-own worker = cases worker.job refl
  where
    cases : (job : Option Job) → worker.job ≡ job → IfSome job (λ (j : Job). IsAfter worker j.number)
    cases None is = tt
    cases (Some job) is = inl (ap (λ (o : Option Job). option_map (λ (j : Job). j.number) o) is)

pub GoesOn-same : (worker : Worker) → GoesOn worker worker
GoesOn-same worker =
    record {
      seen = omega arith;
      job = IsAfter-own worker;
      later = [];
      ended = sym (append-nil worker.ended);
      follow =
          tt;
    }

module _ (old middle : Worker) (goes : GoesOn old middle) where
  IsAfter-later : (number : ℕ) → IsAfter middle number → IsAfter old number
  IsAfter-later number (inl own) = cases middle.job goes.job own
    where
      cases :
          (job : Option Job) → IfSome job (λ (j : Job). IsAfter old j.number) →
          option_map (λ (j : Job). j.number) job ≡ Some number → IsAfter old number
      cases None after own = absurd (none-some number own)
      cases (Some job) after own =
          let same : job.number ≡ number = cc in
          subst (IsAfter old) same after
  IsAfter-later number (inr low) =
      let rises = goes.seen in
      inr (omega arith)

  pub GoesOn-through : (new : Worker) → GoesOn middle new → GoesOn old new
  GoesOn-through new further =
      let first = goes.seen in
      let second = further.seen in
      record {
        seen = omega arith;
        job = IfSome_then new.job further.job (λ job after. IsAfter-later job.number after);
        later = goes.later ++ further.later;
        ended = further.ended ∙ ap (λ (es : List EndedJob). es ++ further.later) goes.ended ∙ append_assoc old.ended
            goes.later further.later;
        follow =
            all-append (λ (e : EndedJob). IsAfter old e.job.number) goes.later further.later goes.follow
            (all-weaker (λ (e : EndedJob). IsAfter middle e.job.number) (λ (e : EndedJob). IsAfter old e.job.number)
            further.later
            (λ e after. IsAfter-later e.job.number after) further.follow);
      }

-- each content that a history leads to is valid
IsValid-empty : IsValid []
IsValid-empty =
    record { few_apps = omega arith; ids_once = λ id. omega arith; names_once = λ name. omega arith; apps_valid = tt }

pub IsValid-content : HistoriesAreValid → (history : History) → IsValid (content_of history)
IsValid-content are_valid history = cases (run history []) refl
  where
    cases : (result : Result (List App) Refused) → run history [] ≡ result → IsValid (content_or_none result)
    cases (Ok apps) led = are_valid history apps led
    cases (Err refused) led = IsValid-empty

-- each edition of an accepted history is accepted
pub LeadsTo-content_at :
    PrefixesAreAccepted → (history : History) (number : ℕ) (content : List App) →
    LeadsTo history content → LeadsTo (take number history) (content_at history number)
LeadsTo-content_at prefixes history number content led =
    let whole = subst (λ (h : History). LeadsTo h content) (sym (take-append-drop number history)) led in
    let first = prefixes (take number history) (drop number history) content whole in
    first.1 ∙ ap (λ (r : Result (List App) Refused). Ok (content_or_none r)) (sym first.1)

-- a longer history has the editions of a shorter one
module _ (mirrors : List Mirror) (history more : History) where
  same-content : (number : ℕ) → number ≤ length history → content_at history number ≡ content_at (history ++ more)
      number
  same-content number within = ap content_of (sym (take-append-le number history more within))

  IsOfOneCatalogue-longer :
      (job : Job) (rendered : Rendered) →
      IsOfOneCatalogue mirrors history job rendered → IsOfOneCatalogue mirrors (history ++ more) job rendered
  IsOfOneCatalogue-longer job rendered is =
      let low = is.published in
      let sized = length-append history more in
      record {
        some = is.some;
        published = omega arith;
        led = subst (λ (h : History). LeadsTo h (content_of h)) (sym (take-append-le job.number history more low))
            is.led;
        pending = is.pending;
        planned = is.planned;
        decided = is.decided;
        reply_is =
            subst
            (λ (apps : List App). IsReplyOf apps mirrors is.pending.request is.pending.choices (outcomes_of is.pending)
            rendered.moment rendered.reply)
            (same-content job.number low) is.reply_is;
      }

  EndsWell-longer : (ended : EndedJob) → EndsWell mirrors history ended → EndsWell mirrors (history ++ more) ended
  EndsWell-longer ended well = IfSome_then ended.rendered well (IsOfOneCatalogue-longer ended.job)

  KeepsJob-longer : (job : Job) → KeepsJob mirrors history job → KeepsJob mirrors (history ++ more) job
  KeepsJob-longer job keeps =
      let low = keeps.published in
      let sized = length-append history more in
      record {
        some = keeps.some;
        published = omega arith;
        pending =
            subst (λ (apps : List App). IfSome job.pending (KeepsPending mirrors apps)) (same-content job.number low)
            keeps.pending;
      }

  pub KeepsWorker-longer : (worker : Worker) → KeepsWorker mirrors history worker → KeepsWorker mirrors
      (history ++ more) worker
  KeepsWorker-longer worker keeps =
      let low = keeps.seen in
      let sized = length-append history more in
      record {
        seen = omega arith;
        job = IfSome_then worker.job keeps.job KeepsJob-longer;
        ended = all-weaker (EndsWell mirrors history) (EndsWell mirrors (history ++ more)) worker.ended
            EndsWell-longer keeps.ended;
        shares = keeps.shares;
      }
