-- Each reply of each worker of a run is that of one published catalogue.
use Rattle.std.proofs.Common.{List, [], ◌∷◌, length, map, Option, None, Some, All, refl, sym, subst}
use Rattle.std.specs.List.{AllByRecursion, flat_map}
use Rattle.std.specs.Option.{option_map_or}
use Rattle.std.proofs.lemmas.List.Elements.{All-from_recursion, recursion_from_All}
use Rattle.catalogue.specs.Histories.{History}
use Rattle.http_desks.specs.Calls.{Call}
use Rattle.omaha_json.specs.ReplyWriting.{reply_bytes}
use Rattle.catalogue.specs.declared.mirror.Mirror.{Mirror}
use Rattle.theorems.specs.Calls.{Sent, sent_by, sent_for, sent_in}
use Rattle.theorems.specs.Events.{happens, service_after}
use Rattle.theorems.specs.Jobs.{EndedJob, Pending, Rendered, Worker, outcomes_of}
use Rattle.theorems.specs.InterleavingLaws.{EndsWell, RepliesAreOfOneCatalogue}
use Rattle.theorems.specs.InterleavingServed.{IsOfPublished, RunsAreInterleavings, ServedRepliesArePublished}
use Rattle.theorems.proofs.ListLemmas.{all-append, all-weaker}

-- what holds of each item that is read
all-mapped : {A B : Type 0} (P : B → Type 0) (read : A → B) (items : List A) →
    AllByRecursion (λ (item : A). P (read item)) items → AllByRecursion P (map read items)
all-mapped P read [] all = tt
all-mapped P read (item ∷ items) all = (all.0, all-mapped P read items all.1)

all-unmapped : {A B : Type 0} (P : B → Type 0) (read : A → B) (items : List A) →
    AllByRecursion P (map read items) → AllByRecursion (λ (item : A). P (read item)) items
all-unmapped P read [] all = tt
all-unmapped P read (item ∷ items) all = (all.0, all-unmapped P read items all.1)

-- and of each piece of each item
all-flat : {A B : Type 0} (P : B → Type 0) (pieces : A → List B) (items : List A) →
    AllByRecursion (λ (item : A). AllByRecursion P (pieces item)) items → AllByRecursion P (flat_map pieces items)
all-flat P pieces [] all = tt
all-flat P pieces (item ∷ items) all =
    all-append P (pieces item) (flat_map pieces items) all.0 (all-flat P pieces items all.1)

module _ (mirrors : List Mirror) (history : History) where
  abbrev Published : List Sent → Type 0
  Published sent = AllByRecursion (IsOfPublished mirrors history) sent

  -- the reply of an ended job
  published-job : (ended : EndedJob) → EndsWell mirrors history ended → Published (sent_for ended)
  published-job ended well = by_reply ended.rendered well
    where
      by_reply : (rendered : Option Rendered) →
          EndsWell mirrors history (record { job = ended.job; rendered = rendered }) →
          Published (sent_for (record { job = ended.job; rendered = rendered }))
      by_reply None well = tt
      by_reply (Some rendered) well =
          subst
          (λ (o : Option Pending). Published
          (option_map_or
          (λ (p : Pending). record {
            request = p.request;
            moment = rendered.moment;
            text = reply_bytes rendered.reply;
          } ∷ [])
          o []))
          (sym well.planned) (
            record {
              number = ended.job.number;
              some = well.some;
              published = well.published;
              led = well.led;
              plan = well.pending.choices;
              outcomes = outcomes_of well.pending;
              reply = rendered.reply;
              is = well.reply_is;
              written = refl;
            },
            tt,
          )

  published-worker : (worker : Worker) → All (EndsWell mirrors history) worker.ended → Published (sent_in worker)
  published-worker worker well =
      all-flat (IsOfPublished mirrors history) sent_for worker.ended
      (all-weaker (EndsWell mirrors history) (λ (ended : EndedJob). Published (sent_for ended)) worker.ended
      published-job
      (recursion_from_All (EndsWell mirrors history) worker.ended well))

pub served_replies_are_published :
    RunsAreInterleavings → RepliesAreOfOneCatalogue happens → ServedRepliesArePublished
served_replies_are_published runs replies mirrors start kept proceedings left accepted served =
    let run = runs mirrors start kept proceedings left served in
    let workers = (service_after happens mirrors start (length proceedings.workers) run.events).workers in
    let well = subst
    (λ (h : History). All (λ (worker : Worker). All (EndsWell mirrors h) worker.ended) workers) run.done.published
    (replies mirrors start (length proceedings.workers) run.events accepted) in
    let each = all-weaker (λ (worker : Worker). All (EndsWell mirrors left.history) worker.ended)
    (λ (worker : Worker). Published mirrors left.history (sent_in worker)) workers
    (published-worker mirrors left.history)
    (recursion_from_All (λ (worker : Worker). All (EndsWell mirrors left.history) worker.ended) workers well) in
    let all = subst (AllByRecursion (Published mirrors left.history)) run.done.sent
    (all-mapped (Published mirrors left.history) sent_in workers each) in
    All-from_recursion (λ (calls : List Call). All (IsOfPublished mirrors left.history) (flat_map sent_by calls))
    proceedings.workers
    (all-weaker (λ (calls : List Call). Published mirrors left.history (flat_map sent_by calls))
    (λ (calls : List Call). All (IsOfPublished mirrors left.history) (flat_map sent_by calls)) proceedings.workers
    (λ calls is. All-from_recursion (IsOfPublished mirrors left.history) (flat_map sent_by calls) is)
    (all-unmapped (Published mirrors left.history) (flat_map sent_by) proceedings.workers all))
