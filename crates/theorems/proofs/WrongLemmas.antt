-- Each wrong machine breaks its law, in a run of the small service.
use Rattle.std.proofs.Common.{◌≡◌, ℕ, ◌≤◌, ◌<◌, inl, inr, true, false, eqb, List, [], ◌∷◌, length, None, Some, Result, refl, sym, ap, ◌∙◌, subst, arith}
use Rattle.std.specs.List.{All, slice_get, sum_by}
use Rattle.std.specs.Option.{option_map_or}
use Rattle.std.specs.Result.{is_ok}
use Rattle.std.proofs.lemmas.Bool.{eq-eqb, false≢true}
use Rattle.std.proofs.lemmas.List.Elements.{All-contains, All-from_recursion}
use Rattle.hex.proofs.OnLiterals.{hex_on_literals}
use Rattle.catalogue.specs.declared.edit.Edit.{Edit}
use Rattle.catalogue.specs.declared.fault.Refused.{Refused}
use Rattle.catalogue.specs.Histories.{History}
use Rattle.cohorts.specs.CohortTexts.{parsed}
use Rattle.catalogue.specs.Batches.{run as run_batches}
use Rattle.editions.specs.Editions.{content_of}
use Rattle.omaha_json.specs.declared.reply.AppReply.{AppReply}
use Rattle.omaha_json.specs.declared.reply.Offer.{Offer}
use Rattle.omaha_json.specs.declared.reply.Reply.{Reply}
use Rattle.payload_graph.specs.declared.payload.Payload.TheVariants.{Full}
use Rattle.catalogue.specs.Forms.{hash_of}
use Rattle.catalogue.specs.declared.content.App.{App}
use Rattle.catalogue.specs.declared.mirror.Mirror.{Mirror}
use Rattle.replies.specs.Plans.{IsPlan}
use Rattle.theorems.specs.Asks.{offer_in}
use Rattle.catalogue.specs.Versions as version
use Rattle.theorems.specs.Events.{Drop, Enter, Grant, Learn, Plan, Publish, Raise, Reject, Render}
use Rattle.theorems.specs.Jobs.{EndedJob, Job, Pending, Rendered, Worker, is_decided, new_worker}
use Rattle.theorems.proofs.EventLemmas.{Made}
use Rattle.theorems.specs.InterleavingLaws.{BatchesArePublishedInTurn, BatchesArePublishedWhole, IsAcceptedHistory, IsOfOneCatalogue, JobsGoByWhatWasSeen, PublishedIsAccepted, PublishedStays, RepliesAreOfOneCatalogue, SeenIsPublished, SeenNeverFalls, SharesAreOfJobs, TotalsAreWithinBudgets}
use Rattle.theorems.specs.Moves.{reply_by}
use Rattle.theorems.specs.Runs.{begins, lower_release, small_batch, small_mirrors, small_request, small_rows, unknown_release, withdrawal, wrong_rows}
use Rattle.theorems.specs.Services.{content_at}
use Rattle.theorems.specs.Wrong.{believes_any_number, books_what_is_rejected, cuts_a_budget, forgets_dropped_jobs, forgets_what_was_seen, grants_without_room, keeps_the_first_catalogue, leaves_the_share, never_publishes, plans_by_any_rows, plans_by_the_newest, publishes_half_a_batch, publishes_late_batches, publishes_over_unknown_batches, publishes_rejected_batches, renders_by_the_newest, renders_undecided}

small-is-ok : is_ok (run_batches (small_batch ∷ []) []) ≡ true
unfolding hex_on_literals version.version_of version.components_of version.lenient_version_of hash_of parsed
small-is-ok = refl

pub small-accepted : IsAcceptedHistory (small_batch ∷ [])
small-accepted =
    let made = Made (run_batches (small_batch ∷ []) []) small-is-ok in
    record { content = made.0; led = made.1; some = omega arith; few = omega arith }

-- what a reply of one catalogue is, of a job whose reply in the making is known
module _ (mirrors : List Mirror) (history : History) (job : Job) (rendered : Rendered)
    (one : IsOfOneCatalogue mirrors history job rendered)
    (pending : Pending) (is : job.pending ≡ Some pending) where
  same : one.pending ≡ pending
  same = let both : Some one.pending ≡ Some pending = sym one.planned ∙ is in cc

  all-decided : is_decided pending ≡ true
  all-decided = subst (λ (p : Pending). is_decided p ≡ true) same one.decided

  is-reply : rendered.reply ≡ reply_by mirrors (content_at history job.number) rendered.moment pending
  is-reply =
      subst (λ (p : Pending). rendered.reply ≡ reply_by mirrors (content_at history job.number) rendered.moment p)
      same one.reply_is.is

  is-plan : IsPlan (content_at history job.number) pending.request pending.choices
  is-plan = subst (λ (p : Pending). IsPlan (content_at history job.number) p.request p.choices) same
      one.reply_is.planned

-- two numbers that a test finds different are not the same
pub apart : (one other : ℕ) → eqb one other ≡ false → one ≡ other → ⊥
apart one other differ same = false≢true (sym differ ∙ eq-eqb one other same)

-- the bytes of the full packages that a reply offers
abbrev sizes_in : Reply → ℕ
sizes_in reply = sum_by (λ (app : AppReply). option_map_or (λ (offer : Offer). offer.full.size) (offer_in app) 0)
    reply.apps

-- an ended job, where a list has none
abbrev pub no_job : EndedJob
no_job = record { job = record { number = 0; pending = None }; rendered = None }

-- in the first catalogue a chain leads the client to its target, so that nothing is no choice for it
no-plan : ¬ (IsPlan (content_of (small_batch ∷ [])) small_request (None ∷ []))
unfolding hex_on_literals version.version_of version.components_of version.lenient_version_of hash_of parsed
no-plan plan = elim (plan.0) [
  | inl at ↦ cc
  | inr none ↦ none (Full 0 ∷ []) (refl, refl)
]

pub newest_reply : ¬ (RepliesAreOfOneCatalogue renders_by_the_newest)
unfolding hex_on_literals version.version_of version.components_of version.lenient_version_of hash_of parsed
newest_reply law =
    let within : 0 < 1 = omega arith in
    let events = begins 0 (Publish 1 (lower_release ∷ []) ∷ Grant 0 0 3 ∷ Render 0 86400 ∷ []) in
    let one = law small_mirrors (small_batch ∷ []) 1 events small-accepted 0 (new_worker 1) within 0 no_job within in
    apart 2 3 refl (ap sizes_in (is-reply _ _ _ _ one _ refl))

pub undecided : ¬ (RepliesAreOfOneCatalogue renders_undecided)
unfolding hex_on_literals version.version_of version.components_of version.lenient_version_of hash_of parsed
undecided law =
    let within : 0 < 1 = omega arith in
    let one = law small_mirrors (small_batch ∷ []) 1 (begins 0 (Render 0 86400 ∷ [])) small-accepted 0 (new_worker 1) within 0
    no_job within in
    false≢true (all-decided _ _ _ _ one _ refl)

pub newest_plan : ¬ (RepliesAreOfOneCatalogue plans_by_the_newest)
unfolding hex_on_literals version.version_of version.components_of version.lenient_version_of hash_of parsed
newest_plan law =
    let within : 0 < 1 = omega arith in
    let events = Enter 0 ∷ Publish 1 (withdrawal ∷ []) ∷ Plan 0 small_request small_rows ∷ Render 0 86400 ∷ [] in
    let one = law small_mirrors (small_batch ∷ []) 1 events small-accepted 0 (new_worker 1) within 0 no_job within in
    no-plan (is-plan _ _ _ _ one _ refl)

pub unchecked : ¬ (RepliesAreOfOneCatalogue plans_by_any_rows)
unfolding hex_on_literals version.version_of version.components_of version.lenient_version_of hash_of parsed
unchecked law =
    let within : 0 < 1 = omega arith in
    let events = Enter 0 ∷ Plan 0 small_request wrong_rows ∷ Render 0 86400 ∷ [] in
    let one = law small_mirrors (small_batch ∷ []) 1 events small-accepted 0 (new_worker 1) within 0 no_job within in
    no-plan (is-plan _ _ _ _ one _ refl)

pub first : ¬ (JobsGoByWhatWasSeen keeps_the_first_catalogue)
unfolding hex_on_literals version.version_of version.components_of version.lenient_version_of hash_of parsed
first law =
    let within : 0 < 1 = omega arith in
    let ended : EndedJob = record { job = record { number = 1; pending = None }; rendered = None } in
    let before : Worker = record (new_worker 1) { seen = 2 } in
    let after : Worker = record (new_worker 1) { ended = ended ∷ [] } in
    let ends = law small_mirrors (small_batch ∷ []) 1 (Publish 1 (withdrawal ∷ []) ∷ Learn 0 2 ∷ []) (Enter 0 ∷ Drop 0 ∷ [])
    small-accepted
    0 before after refl refl refl in
    let all = subst (All (λ (e : EndedJob). 2 ≤ e.job.number)) (sym ends.ended) ends.follow in
    let low : 2 ≤ 1 = all 0 ended within in
    absurd (omega arith)

pub unpublished : ¬ (SeenIsPublished believes_any_number)
unpublished law =
    let low : 7 ≤ 1 = law small_mirrors (small_batch ∷ []) 1 (Learn 0 7 ∷ []) small-accepted 0 in
    absurd (omega arith)

pub unseen : ¬ (SeenNeverFalls forgets_what_was_seen)
unfolding hex_on_literals version.version_of version.components_of version.lenient_version_of hash_of parsed
unseen law =
    let events = Publish 1 (withdrawal ∷ []) ∷ Learn 0 2 ∷ [] in
    let low : 2 ≤ 1 = law small_mirrors (small_batch ∷ []) 1 events (Learn 0 1 ∷ []) small-accepted 0 in
    absurd (omega arith)

pub no_room : ¬ (TotalsAreWithinBudgets grants_without_room)
unfolding hex_on_literals version.version_of version.components_of version.lenient_version_of hash_of parsed
no_room law =
    let book = law small_mirrors (small_batch ∷ []) 2 (begins 0 (begins 1 (Grant 0 0 3 ∷ Grant 1 0 3 ∷ []))) small-accepted
    0 in
    let low : 6 ≤ 5 = book.within in
    absurd (omega arith)

pub share : ¬ (TotalsAreWithinBudgets leaves_the_share)
unfolding hex_on_literals version.version_of version.components_of version.lenient_version_of hash_of parsed
share law =
    let book = law small_mirrors (small_batch ∷ []) 1 (begins 0 (Grant 0 0 3 ∷ [])) small-accepted 0 in
    apart 3 0 refl book.adds_up

pub booked : ¬ (TotalsAreWithinBudgets books_what_is_rejected)
unfolding hex_on_literals version.version_of version.components_of version.lenient_version_of hash_of parsed
booked law =
    let book = law small_mirrors (small_batch ∷ []) 1 (begins 0 (Reject 0 0 3 ∷ [])) small-accepted 0 in
    apart 3 0 refl book.adds_up

pub lowered : ¬ (TotalsAreWithinBudgets cuts_a_budget)
unfolding hex_on_literals version.version_of version.components_of version.lenient_version_of hash_of parsed
lowered law =
    let book = law small_mirrors (small_batch ∷ []) 1 (begins 0 (Grant 0 0 3 ∷ Raise 0 2 ∷ [])) small-accepted 0 in
    let low : 3 ≤ 2 = book.within in
    absurd (omega arith)

pub forgotten : ¬ (SharesAreOfJobs forgets_dropped_jobs)
unfolding hex_on_literals version.version_of version.components_of version.lenient_version_of hash_of parsed
forgotten law =
    let within : 0 < 1 = omega arith in
    apart 3 0 refl
    (law small_mirrors (small_batch ∷ []) 1 (begins 0 (Grant 0 0 3 ∷ Drop 0 ∷ [])) small-accepted 0 0 (new_worker 1) within)

pub half : ¬ (BatchesArePublishedWhole publishes_half_a_batch)
unfolding hex_on_literals version.version_of version.components_of version.lenient_version_of hash_of parsed
half law =
    let within : 1 < 2 = omega arith in
    let batch = withdrawal ∷ lower_release ∷ [] in
    let given = small_batch ∷ batch ∷ [] in
    let whole = law small_mirrors (small_batch ∷ []) 1 (Publish 1 batch ∷ []) small-accepted 1 [] within in
    let long : All (λ (b : List Edit). 2 ≤ length b) given =
    All-from_recursion (λ (b : List Edit). 2 ≤ length b) given (omega arith, (omega arith, tt)) in
    let low : 2 ≤ 1 = All-contains (λ (b : List Edit). 2 ≤ length b) given (withdrawal ∷ []) long whole in
    absurd (omega arith)

pub rejected : ¬ (PublishedIsAccepted publishes_rejected_batches)
unfolding hex_on_literals version.version_of version.components_of version.lenient_version_of hash_of parsed
rejected law =
    let accepted = law small_mirrors (small_batch ∷ []) 1 (Publish 1 (unknown_release ∷ []) ∷ []) small-accepted in
    false≢true (ap (λ (r : Result (List App) Refused). is_ok r) accepted.led)

-- the number of edits of the second batch of a history
abbrev second_length : History → ℕ
second_length history = option_map_or (λ (batch : List Edit). length batch) (slice_get history 1) 0

pub lost : ¬ (PublishedStays publishes_over_unknown_batches)
unfolding hex_on_literals version.version_of version.components_of version.lenient_version_of hash_of parsed
lost law =
    let events = Publish 1 (withdrawal ∷ lower_release ∷ []) ∷ [] in
    let stays = law small_mirrors (small_batch ∷ []) 1 events (Publish 1 (withdrawal ∷ []) ∷ []) small-accepted in
    apart 1 2 refl (ap second_length stays.1)

pub late : ¬ (BatchesArePublishedInTurn publishes_late_batches)
unfolding hex_on_literals version.version_of version.components_of version.lenient_version_of hash_of parsed
late law = apart 2 1 refl
    (ap (λ (h : History). length h) (law small_mirrors (small_batch ∷ []) 1 [] small-accepted 0 (withdrawal ∷ [])))

pub never : ¬ (BatchesArePublishedInTurn never_publishes)
unfolding hex_on_literals version.version_of version.components_of version.lenient_version_of hash_of parsed
never law = apart 1 2 refl
    (ap (λ (h : History). length h) (law small_mirrors (small_batch ∷ []) 1 [] small-accepted 1 (withdrawal ∷ [])))
