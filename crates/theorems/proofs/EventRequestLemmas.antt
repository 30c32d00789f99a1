-- Each event keeps by which events the jobs of each worker began, were planned and ended.
use Rattle.std.proofs.Common.{◌≡◌, ℕ, zero, suc, ◌⊎◌, inl, inr, eqb, List, [], ◌∷◌, ◌++◌, length, replicate, ◌+◌, None, Some, refl, sym, ap, ◌∙◌, append_assoc, subst}
use Rattle.catalogue.specs.Histories.{History}
use Rattle.std.specs.List.{slice_get}
use Rattle.std.proofs.lemmas.Bool.{cond_both}
use Rattle.std.proofs.lemmas.List.{append-nil}
use Rattle.std.proofs.lemmas.Option.{IfSome_then, none-some, same_Some}
use Rattle.mirror_ledger.specs.Asks.{booked}
use Rattle.catalogue.specs.declared.mirror.Mirror.{Mirror}
use Rattle.theorems.specs.Entries.{Course, JobsGoByWhatIsPublished}
use Rattle.theorems.specs.Events.{Drop, Enter, Event, Grant, Learn, Plan, Publish, Raise, Reject, Render, asks, decided, granted, happens, moved, rejected, service_after}
use Rattle.theorems.specs.Jobs.{Pending, Worker, new_worker}
use Rattle.theorems.specs.InterleavingLaws.{worker_at}
use Rattle.theorems.specs.Moves.{after_drop, after_entry, after_grant, after_news, after_plan, after_rejection, after_rendering, with_outcome, with_pending}
use Rattle.theorems.specs.Requests.{RepliesAreToGivenRequests}
use Rattle.theorems.specs.Services.{Service, changed_at, has_room, opened, published, with_budget}
use Rattle.theorems.proofs.CourseLemmas.{KeepsCourse, KeepsCourse-longer}
use Rattle.theorems.proofs.RunLemmas.{run-append}
use Rattle.theorems.proofs.TurnLemmas.{drop, entry, news, pending-kept, plan, rendering}

-- an item of a list with one item changed: it was there, or is the changed one
record Was {A : Type 0} (change : A → A) (changed at : ℕ) (items : List A) (item : A) : Type 0 where
  old : A
  there : slice_get items at ≡ Some old
  is : (item ≡ old) ⊎ ((changed ≡ at) × (item ≡ change old))

Was-changed :
    {A : Type 0} (change : A → A) (changed at : ℕ) (items : List A) (item : A) →
    slice_get (changed_at changed change items) at ≡ Some item → Was change changed at items item
Was-changed change changed at [] item there = absurd (none-some item there)
Was-changed change zero zero (first ∷ items) item there =
    record { old = first; there = refl; is = inr (refl, sym (same_Some (change first) item there)) }
Was-changed change zero (suc at) (first ∷ items) item there = record { old = item; there = there; is = inl refl }
Was-changed change (suc changed) zero (first ∷ items) item there =
    record { old = first; there = refl; is = inl (sym (same_Some first item there)) }
Was-changed change (suc changed) (suc at) (first ∷ items) item there =
    let rest = Was-changed change changed at items item there in
    record {
      old = rest.old;
      there = rest.there;
      is = elim rest.is [
        | inl same ↦ inl same
        | inr other ↦ inr (ap suc other.0, other.1)
      ];
    }

-- a new worker has no job
new-at : (seen count index : ℕ) (worker : Worker) → slice_get (replicate count (new_worker seen)) index ≡ Some worker →
    worker ≡ new_worker seen
new-at seen zero index worker there = absurd (none-some worker there)
new-at seen (suc count) zero worker there = sym (same_Some (new_worker seen) worker there)
new-at seen (suc count) (suc index) worker there = new-at seen count index worker there

module _ (mirrors : List Mirror) (start : History) (workers : ℕ) where
  abbrev course : Course
  course = service_after happens mirrors start workers

  -- of all workers
  abbrev AllKeep : List Event → Type 0
  AllKeep events = (index : ℕ) (worker : Worker) → worker_at (course events) index ≡ Some worker →
      KeepsCourse course index events worker

  module _ (events : List Event) (all : AllKeep events) (event : Event) where
    abbrev further : List Event
    further = events ++ event ∷ []

    abbrev Next : Service → Type 0
    Next next = course further ≡ next → AllKeep further

    -- the workers stay as they are
    stay : (next : Service) → next.workers ≡ (course events).workers → Next next
    stay next same is index worker there =
        KeepsCourse-longer course index events (event ∷ []) worker
        (all index worker
        (ap (λ (ws : List Worker). slice_get ws index) (sym (ap (λ (s : Service). s.workers) is ∙ same)) ∙ there))

    -- or one moves
    moves :
        (next : Service) (changed : ℕ) (move : Worker → Worker) →
        next.workers ≡ changed_at changed move (course events).workers →
        ((old : Worker) → worker_at (course events) changed ≡ Some old → KeepsCourse course changed events old →
        worker_at (course further) changed ≡ Some (move old) → KeepsCourse course changed further (move old)) →
        Next next
    moves next changed move same keeps is index worker there =
        let all_same = ap (λ (s : Service). s.workers) is ∙ same in
        let was = Was-changed move changed index (course events).workers worker
        (ap (λ (ws : List Worker). slice_get ws index) (sym all_same) ∙ there) in
        elim was.is [
          | inl own ↦
              subst (KeepsCourse course index further) (sym own)
              (KeepsCourse-longer course index events (event ∷ []) was.old (all index was.old was.there))
          | inr other ↦
              let at_changed = subst (λ (i : ℕ). worker_at (course events) i ≡ Some was.old) (sym other.0) was.there in
              let now = subst (λ (i : ℕ). worker_at (course further) i ≡ Some worker) (sym other.0) there in
              subst (KeepsCourse course index further) (sym other.1)
              (subst (λ (i : ℕ). KeepsCourse course i further (move was.old)) other.0
              (keeps was.old at_changed (all changed was.old at_changed) (now ∙ ap Some other.1)))
        ]

  -- a mirror rejects
  rejects : (events : List Event) (all : AllKeep events) (event : Event) (changed mirror : ℕ) →
      Next events all event (rejected mirrors changed mirror (course events))
  rejects events all event changed mirror =
      moves events all event (rejected mirrors changed mirror (course events)) changed
      (with_pending (after_rejection mirrors mirror)) refl
      (λ old was keeps.
      pending-kept course changed events event old was keeps (after_rejection mirrors mirror) old.share
      (λ p.
      cond_both (eqb (mirror + 1) (length mirrors)) (with_outcome None p) (record p { tried = mirror + 1 })
      (λ (q : Pending). q.request ≡ p.request) (λ last. refl) (λ other. refl)))

  step : (events : List Event) (all : AllKeep events) (event : Event) →
      Next events all event (happens mirrors (course events) event)
  step events all (Publish known batch) =
      let service = course events in
      stay events all (Publish known batch) (record service { history = published service.history known batch }) refl
  step events all (Enter changed) =
      let move = after_entry (length (course events).history) in
      moves events all (Enter changed) (moved changed move (course events)) changed move refl
      (λ old was keeps. entry course changed events (Enter changed) old was keeps refl)
  step events all (Learn changed number) =
      let move = after_news (length (course events).history) number in
      moves events all (Learn changed number) (moved changed move (course events)) changed move refl
      (λ old was keeps.
      news course changed events (Learn changed number) old was keeps (length (course events).history) number)
  step events all (Plan changed request tables) =
      let move = after_plan (course events).history request tables in
      moves events all (Plan changed request tables) (moved changed move (course events)) changed move refl
      (λ old was keeps.
      plan course changed events (Plan changed request tables) old was keeps (course events).history request tables refl)
  step events all (Grant changed mirror bytes) =
      let event = Grant changed mirror bytes in
      let service = course events in
      cond_both (asks mirrors service changed mirror bytes) (decided mirrors changed mirror bytes service) service
      (Next events all event)
      (λ asking.
      cond_both (has_room (service.books mirror) bytes) (granted changed mirror bytes service)
      (rejected mirrors changed mirror service) (Next events all event)
      (λ room.
      moves events all event (granted changed mirror bytes service) changed (after_grant mirror bytes) refl
      (λ old was keeps.
      pending-kept course changed events event old was keeps (with_outcome (Some mirror))
      (λ m. old.share m + booked m bytes (Some mirror)) (λ p. refl)))
      (λ full. rejects events all event changed mirror))
      (λ test. stay events all event service refl)
  step events all (Reject changed mirror bytes) =
      let event = Reject changed mirror bytes in
      let service = course events in
      cond_both (asks mirrors service changed mirror bytes) (rejected mirrors changed mirror service) service
      (Next events all event) (λ asking. rejects events all event changed mirror)
      (λ test. stay events all event service refl)
  step events all (Render changed moment) =
      let move = after_rendering mirrors (course events).history moment in
      moves events all (Render changed moment) (moved changed move (course events)) changed move refl
      (λ old was keeps.
      rendering course changed events (Render changed moment) old was keeps mirrors (course events).history moment refl)
  step events all (Drop changed) =
      moves events all (Drop changed) (moved changed after_drop (course events)) changed after_drop refl
      (λ old was keeps. drop course changed events (Drop changed) old was keeps)
  step events all (Raise mirror bytes) =
      let service = course events in
      stay events all (Raise mirror bytes) (record service { books = with_budget service.books mirror bytes }) refl

  keep : (events more : List Event) → AllKeep events → AllKeep (events ++ more)
  keep events [] all = subst AllKeep (sym (append-nil events)) all
  keep events (event ∷ more) all =
      subst AllKeep (append_assoc events (event ∷ []) more)
      (keep (events ++ event ∷ []) more
      (step events all event (run-append happens mirrors events (event ∷ []) (opened mirrors start workers))))

  -- at the opening there is no job
  none-yet : AllKeep []
  none-yet index worker there =
      subst (KeepsCourse course index []) (sym (new-at (length start) workers index worker there))
      (record { job = tt; ended = λ place ended own. absurd (none-some ended own) })

  kept : (events : List Event) → AllKeep events
  kept events = keep [] events none-yet

pub jobs_go_by_what_is_published : JobsGoByWhatIsPublished happens
jobs_go_by_what_is_published mirrors start workers events accepted index worker there =
    let course = service_after happens mirrors start workers in
    let keeps = kept mirrors start workers events index worker there in
    (λ place ended own. (keeps.ended place ended own).0, IfSome_then worker.job keeps.job (λ job way. way.0))

pub replies_are_to_given_requests : RepliesAreToGivenRequests happens
replies_are_to_given_requests mirrors start workers events accepted index worker there place ended own =
    ((kept mirrors start workers events index worker there).ended place ended own).1
