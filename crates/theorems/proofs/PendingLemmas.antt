-- What mirrors granted for a reply in the making, and the outcomes of its apps.
use Rattle.std.proofs.Common.{◌≡◌, ℕ, ◌+◌, ◌<◌, ◌&&◌, true, false, eqb, ltb, List, [], ◌∷◌, ◌++◌, length, Option, None, Some, refl, sym, ap, ◌∙◌, arith}
use Rattle.std.specs.List.{AllByRecursion, slice_get, zip}
use Rattle.std.specs.Option.{option_map_or}
use Rattle.std.proofs.lemmas.Bool.{and_parts, cond_both, eqb-true, ltb-true}
use Rattle.std.proofs.lemmas.List.Sums.{sum_by-cons, sum_by_push}
use Rattle.mirror_ledger.specs.Asks.{Ask, booked, granted_at}
use Rattle.omaha_json.specs.declared.request.Request.{Request}
use Rattle.catalogue.specs.declared.content.App.{App}
use Rattle.catalogue.specs.declared.mirror.Mirror.{Mirror}
use Rattle.replies.specs.Replies.{AreOutcomes}
use Rattle.replies.specs.declared.choices.Choice.{Choice}
use Rattle.replies.specs.Asking.{asks_of}
use Rattle.theorems.specs.Choices.{Tables}
use Rattle.theorems.specs.Jobs.{Pending, bytes_asked, granted_to, outcomes_by_app}
use Rattle.theorems.specs.Moves.{after_rejection, asks_next, begun, with_outcome}
use Rattle.theorems.proofs.KeptLemmas.{IsNamed, KeepsPending}
use Rattle.theorems.proofs.ListLemmas.{Passes-option_map_or, all-append, pairs-nil, pairs-push}

-- the outcomes by app are those of the plan
pub AreOutcomes-by_app :
    (mirrors : List Mirror) (choices : List (Option Choice)) (outcomes : List (Option ℕ)) →
    AllByRecursion (IsNamed mirrors) outcomes → AreOutcomes mirrors choices (outcomes_by_app choices outcomes)
AreOutcomes-by_app mirrors [] outcomes named = tt
AreOutcomes-by_app mirrors (None ∷ choices) outcomes named = (tt, AreOutcomes-by_app mirrors choices outcomes named)
AreOutcomes-by_app mirrors (Some choice ∷ choices) [] named = (tt, AreOutcomes-by_app mirrors choices [] tt)
AreOutcomes-by_app mirrors (Some choice ∷ choices) (None ∷ outcomes) named =
    (tt, AreOutcomes-by_app mirrors choices outcomes named.1)
AreOutcomes-by_app mirrors (Some choice ∷ choices) (Some mirror ∷ outcomes) named =
    ((refl, named.0), AreOutcomes-by_app mirrors choices outcomes named.1)

-- what a mirror granted of the asks of all apps, it granted of those that have an outcome
granted-decided :
    (mirror : ℕ) (choices : List (Option Choice)) (outcomes : List (Option ℕ)) →
    granted_at mirror (asks_of choices (outcomes_by_app choices outcomes)) ≡ granted_at mirror
    (zip (bytes_asked choices) outcomes)
granted-decided mirror [] outcomes = refl
granted-decided mirror (None ∷ choices) outcomes = granted-decided mirror choices outcomes
granted-decided mirror (Some choice ∷ choices) [] =
    let part = λ (ask : Ask). booked mirror ask.0 ask.1 in
    let whole = sum_by-cons part (choice.bytes, None) (asks_of choices (outcomes_by_app choices [])) in
    let rest = granted-decided mirror choices [] ∙ ap (granted_at mirror) (pairs-nil (bytes_asked choices)) in
    omega arith
granted-decided mirror (Some choice ∷ choices) (outcome ∷ outcomes) =
    let part = λ (ask : Ask). booked mirror ask.0 ask.1 in
    sum_by-cons part (choice.bytes, outcome) (asks_of choices (outcomes_by_app choices outcomes))
    ∙ ap (λ n. booked mirror choice.bytes outcome + n) (granted-decided mirror choices outcomes)
    ∙ sym (sum_by-cons part (choice.bytes, outcome) (zip (bytes_asked choices) outcomes))

-- nothing is granted for a plan of which nothing was asked
pub granted-begun : (mirror : ℕ) (apps : List App) (request : Request) (tables : Tables) → granted_to mirror
    (begun apps request tables) ≡ 0
granted-begun mirror apps request tables =
    let choices = (begun apps request tables).choices in
    granted-decided mirror choices [] ∙ ap (granted_at mirror) (pairs-nil (bytes_asked choices))

-- what the test of an ask says
pub record AsksNext (mirrors : List Mirror) (mirror bytes : ℕ) (pending : Pending) : Type 0 where
  pub next : slice_get (bytes_asked pending.choices) (length pending.outcomes) ≡ Some bytes
  pub within : mirror < length mirrors

pub AsksNext-passed :
    (mirrors : List Mirror) (mirror bytes : ℕ) (pending : Pending) →
    asks_next mirrors mirror bytes pending ≡ true → AsksNext mirrors mirror bytes pending
AsksNext-passed mirrors mirror bytes pending passed =
    let there = slice_get (bytes_asked pending.choices) (length pending.outcomes) in
    let parts = and_parts (option_map_or (λ (size : ℕ). eqb size bytes) there false)
    (eqb mirror pending.tried && ltb mirror (length mirrors)) passed in
    let size = Passes-option_map_or (λ (size : ℕ). eqb size bytes) there parts.0 in
    let mirror_is = and_parts (eqb mirror pending.tried) (ltb mirror (length mirrors)) parts.1 in
    record {
      next = size.is ∙ ap (λ (n : ℕ). Some n) (eqb-true size.item bytes size.passed);
      within = ltb-true mirror (length mirrors) mirror_is.1;
    }

module _ (mirrors : List Mirror) (apps : List App) where
  -- the next choice gets an outcome
  pub KeepsPending-outcome :
      (outcome : Option ℕ) (pending : Pending) → IsNamed mirrors outcome →
      KeepsPending mirrors apps pending → KeepsPending mirrors apps (with_outcome outcome pending)
  KeepsPending-outcome outcome pending named keeps =
      record {
        planned = keeps.planned;
        named = all-append (IsNamed mirrors) pending.outcomes (outcome ∷ []) keeps.named (named, tt);
      }

  pub KeepsPending-rejection :
      (mirror : ℕ) (pending : Pending) → KeepsPending mirrors apps pending → KeepsPending mirrors apps
      (after_rejection mirrors mirror pending)
  KeepsPending-rejection mirror pending keeps =
      cond_both (eqb (mirror + 1) (length mirrors)) (with_outcome None pending) (record pending { tried = mirror + 1 })
      (KeepsPending mirrors apps) (λ last. KeepsPending-outcome None pending tt keeps)
      (λ other. record { planned = keeps.planned; named = keeps.named })

-- the outcome of the next choice adds what its mirror granted
pub granted-outcome :
    (mirror bytes : ℕ) (outcome : Option ℕ) (pending : Pending) →
    slice_get (bytes_asked pending.choices) (length pending.outcomes) ≡ Some bytes →
    granted_to mirror (with_outcome outcome pending) ≡ granted_to mirror pending + booked mirror bytes outcome
granted-outcome mirror bytes outcome pending next =
    let sizes = bytes_asked pending.choices in
    granted-decided mirror pending.choices (pending.outcomes ++ outcome ∷ [])
    ∙ ap (granted_at mirror) (pairs-push sizes pending.outcomes bytes outcome next)
    ∙ sum_by_push (λ (ask : Ask). booked mirror ask.0 ask.1) (zip sizes pending.outcomes) (bytes, outcome)
    ∙ ap (λ n. n + booked mirror bytes outcome) (sym (granted-decided mirror pending.choices pending.outcomes))

pub granted-rejection :
    (mirrors : List Mirror) (mirror refusing bytes : ℕ) (pending : Pending) →
    slice_get (bytes_asked pending.choices) (length pending.outcomes) ≡ Some bytes →
    granted_to mirror (after_rejection mirrors refusing pending) ≡ granted_to mirror pending + 0
granted-rejection mirrors mirror refusing bytes pending next =
    cond_both (eqb (refusing + 1) (length mirrors)) (with_outcome None pending)
    (record pending { tried = refusing + 1 })
    (λ (p : Pending). granted_to mirror p ≡ granted_to mirror pending + 0)
    (λ last. granted-outcome mirror bytes None pending next) (λ other. omega arith)
