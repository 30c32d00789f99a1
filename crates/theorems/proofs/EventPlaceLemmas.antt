-- Where the events of a job are among those of a run.
use Rattle.std.proofs.Common.{◌≡◌, ℕ, zero, suc, List, [], ◌∷◌, ◌++◌, length, take, Some, refl, sym, ap, ◌∙◌, append_assoc, subst}
use Rattle.std.specs.List.{slice_get}
use Rattle.std.proofs.Math.Seq.{take-append_seam}
use Rattle.std.proofs.lemmas.Option.{none-some, same_Some}
use Rattle.theorems.specs.Entries.{Course, GoesByPublished, Jobs, Turns, entered_job, jobs_at}
use Rattle.theorems.specs.Events.{Enter, Event, Plan, Render}
use Rattle.theorems.specs.Jobs.{EndedJob, Job, Rendered}
use Rattle.theorems.specs.Requests.{IsToItsRequest}

-- the item after some others
pub slice_get-seam : {A : Type 0} (before : List A) (item : A) (after : List A) →
    slice_get (before ++ item ∷ after) (length before) ≡ Some item
slice_get-seam [] item after = refl
slice_get-seam (first ∷ before) item after = slice_get-seam before item after

-- what holds of each item with its place
abbrev pub EachPlace : {A : Type 0} → (ℕ → A → Type 0) → List A → Type 0
EachPlace P [] = Unit {0}
EachPlace P (item ∷ items) = P 0 item × EachPlace (λ place. P (suc place)) items

pub at-place : {A : Type 0} (P : ℕ → A → Type 0) (items : List A) (place : ℕ) (item : A) →
    EachPlace P items → slice_get items place ≡ Some item → P place item
at-place P [] place item each there = absurd (none-some item there)
at-place P (first ∷ items) zero item each there = subst (P 0) (same_Some first item there) each.0
at-place P (first ∷ items) (suc place) item each there = at-place (λ at. P (suc at)) items place item each.1 there

-- an event of a run by its place, with the jobs of a worker before it
pub record IsAt (course : Course) (index : ℕ) (events : List Event) (event : Event) (old : Jobs) : Type 0 where
  pub place : ℕ
  pub there : slice_get events place ≡ Some event
  pub from : jobs_at (course (take place events)) index ≡ Some old

-- one that comes before others
IsAt-Turns :
    (course : Course) (index : ℕ) (events first rest before : List Event) (event : Event) (old new : Jobs) →
    events ≡ first ++ rest → Turns course index first before event old new → IsAt course index events event old
IsAt-Turns course index events first rest before event old new parts turns =
    let whole = parts ∙ ap (λ (es : List Event). es ++ rest) turns.among
    ∙ append_assoc before (event ∷ turns.after) rest in
    record {
      place = length before;
      there =
          subst (λ (es : List Event). slice_get es (length before) ≡ Some event) (sym whole)
          (slice_get-seam before event (turns.after ++ rest));
      from =
          subst (λ (es : List Event). jobs_at (course es) index ≡ Some old)
          (sym (ap (take (length before)) whole ∙ take-append_seam before (event ∷ turns.after ++ rest))) turns.from;
    }

-- the plan and the rendering of a reply
module _ (course : Course) (index : ℕ) (events : List Event) (earlier : List EndedJob) (job : Job) (rendered : Rendered)
    (is : IsToItsRequest course index events earlier job rendered) where
  pub plan-place :
      IsAt course index events (Plan index is.request is.tables) (earlier, Some (entered_job job.number))
  plan-place =
      IsAt-Turns course index events is.before_rendering (Render index rendered.moment ∷ is.rendering.after)
      is.before_plan (Plan index is.request is.tables) (earlier, Some (entered_job job.number))
      (earlier, Some is.planned) is.rendering.among is.plan

  pub rendering-place : IsAt course index events (Render index rendered.moment) (earlier, Some job)
  rendering-place =
      record {
        place = length is.before_rendering;
        there =
            subst (λ (es : List Event). slice_get es (length is.before_rendering) ≡ Some (Render index rendered.moment))
            (sym is.rendering.among)
            (slice_get-seam is.before_rendering (Render index rendered.moment) is.rendering.after);
        from =
            subst (λ (es : List Event). jobs_at (course es) index ≡ Some (earlier, Some job))
            (sym (ap (take (length is.before_rendering)) is.rendering.among
            ∙ take-append_seam is.before_rendering (Render index rendered.moment ∷ is.rendering.after)))
            is.rendering.from;
      }

-- the entry of a job, with what was published then
pub record IsEntryAt (course : Course) (index number : ℕ) (events : List Event) : Type 0 where
  pub place : ℕ
  pub there : slice_get events place ≡ Some (Enter index)
  pub number_is : number ≡ length (course (take place events)).history

pub entry-place :
    (course : Course) (index : ℕ) (events : List Event) (earlier : List EndedJob) (job : Job) →
    GoesByPublished course index events earlier job → IsEntryAt course index job.number events
entry-place course index events earlier job goes =
    record {
      place = length goes.before;
      there =
          subst (λ (es : List Event). slice_get es (length goes.before) ≡ Some (Enter index)) (sym goes.entry.among)
          (slice_get-seam goes.before (Enter index) goes.entry.after);
      number_is =
          subst (λ (es : List Event). job.number ≡ length (course es).history)
          (sym (ap (take (length goes.before)) goes.entry.among
          ∙ take-append_seam goes.before (Enter index ∷ goes.entry.after)))
          goes.number;
    }
