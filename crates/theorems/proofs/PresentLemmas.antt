-- The mirrors of a service with their present budgets.
use Rattle.std.proofs.Common.{◌≡◌, ◌∙◌, ℕ, zero, suc, ◌<◌, ◌≤◌, Bool, List, [], ◌∷◌, length, max, leb, cond, ap, ap₂, arith, refl}
use Rattle.std.proofs.Math.Dec.{eqb-suc-suc, eqb-suc-zero, eqb-zero-suc}
use Rattle.std.proofs.lemmas.Bool.{cond_both, eq-eqb, leb-false, leb-true}
use Rattle.mirror_books.specs.Budgets.{Account}
use Rattle.mirror_ledger.specs.Named.{budget_at}
use Rattle.mirror_ledger.specs.Raising.{raise_at}
use Rattle.catalogue.specs.declared.mirror.Mirror.{Mirror}
use Rattle.theorems.specs.Events.{Drop, Enter, Event, Grant, Learn, Plan, Publish, Raise, Reject, Render, asks, decided, granted, happens, rejected, run}
use Rattle.theorems.specs.InterleavingLaws.{BudgetsAreThoseOfRaises, mirrors_after, mirrors_by}
use Rattle.theorems.specs.Services.{Service, has_room, opened, opened_book, present, with_budget, with_budgets_of}

-- a mirror with another budget, and more mirrors
abbrev front : Mirror → ℕ → List Mirror → List Mirror
front mirror budget rest = record { name = mirror.name; codebase = mirror.codebase; budget = budget } ∷ rest

-- the books after the first one
abbrev others : (ℕ → Account) → ℕ → Account
others books index = books (suc index)

-- books of the same budgets
pub with_budgets_of-same : (one other : ℕ → Account) (mirrors : List Mirror) → ((index : ℕ) → (one index).budget ≡ (other index).budget) →
    with_budgets_of one mirrors ≡ with_budgets_of other mirrors
with_budgets_of-same one other [] same = refl
with_budgets_of-same one other (mirror ∷ mirrors) same =
    ap₂ (front mirror) (same 0) (with_budgets_of-same (others one) (others other) mirrors (λ index. same (suc index)))

-- the budget at an index is that of the book
pub budget_at-present : (books : ℕ → Account) (mirrors : List Mirror) (index : ℕ) → index < length mirrors →
    budget_at (with_budgets_of books mirrors) index ≡ (books index).budget
budget_at-present books [] index below = absurd (omega (arith, below))
budget_at-present books (mirror ∷ mirrors) zero below = refl
budget_at-present books (mirror ∷ mirrors) (suc index) below = budget_at-present (others books) mirrors index (omega (arith, below))

-- what a raise makes of the first book's budget, and of the others
first-own : (books : ℕ → Account) (bytes : ℕ) → (with_budget books 0 bytes 0).budget ≡ max (books 0).budget bytes
first-own books bytes = ap (λ (b : Bool). cond b (max (books 0).budget bytes) (books 0).budget) (eq-eqb 0 0 refl)

first-other : (books : ℕ → Account) (raised bytes : ℕ) → (with_budget books (suc raised) bytes 0).budget ≡ (books 0).budget
first-other books raised bytes = ap (λ (b : Bool). cond b (max (books 0).budget bytes) (books 0).budget) (eqb-suc-zero raised)

others-kept : (books : ℕ → Account) (bytes index : ℕ) → (with_budget books 0 bytes (suc index)).budget ≡ (books (suc index)).budget
others-kept books bytes index =
    ap (λ (b : Bool). cond b (max (books (suc index)).budget bytes) (books (suc index)).budget) (eqb-zero-suc index)

others-raised : (books : ℕ → Account) (raised bytes index : ℕ) →
    (with_budget books (suc raised) bytes (suc index)).budget ≡ (with_budget (others books) raised bytes index).budget
others-raised books raised bytes index =
    ap (λ (b : Bool). cond b (max (books (suc index)).budget bytes) (books (suc index)).budget) (eqb-suc-suc raised index)

-- a raise to no less changes the budget at the index
pub present-raised : (books : ℕ → Account) (mirrors : List Mirror) (index bytes : ℕ) →
    budget_at (with_budgets_of books mirrors) index ≤ bytes →
    with_budgets_of (with_budget books index bytes) mirrors ≡ raise_at (with_budgets_of books mirrors) index bytes
present-raised books [] index bytes low = refl
present-raised books (mirror ∷ mirrors) zero bytes low =
    let below : (books 0).budget ≤ bytes = low in
    ap₂ (front mirror) (omega (arith, below, first-own books bytes))
    (with_budgets_of-same (others (with_budget books 0 bytes)) (others books) mirrors (others-kept books bytes))
present-raised books (mirror ∷ mirrors) (suc index) bytes low =
    ap₂ (front mirror) (first-other books index bytes)
    (with_budgets_of-same (others (with_budget books (suc index) bytes)) (with_budget (others books) index bytes) mirrors
    (others-raised books index bytes)
    ∙ present-raised (others books) mirrors index bytes low)

-- a raise to no more changes nothing
pub present-lower : (books : ℕ → Account) (mirrors : List Mirror) (index bytes : ℕ) →
    bytes ≤ budget_at (with_budgets_of books mirrors) index →
    with_budgets_of (with_budget books index bytes) mirrors ≡ with_budgets_of books mirrors
present-lower books [] index bytes high = refl
present-lower books (mirror ∷ mirrors) zero bytes high =
    let above : bytes ≤ (books 0).budget = high in
    ap₂ (front mirror) (omega (arith, above, first-own books bytes))
    (with_budgets_of-same (others (with_budget books 0 bytes)) (others books) mirrors (others-kept books bytes))
present-lower books (mirror ∷ mirrors) (suc index) bytes high =
    ap₂ (front mirror) (first-other books index bytes)
    (with_budgets_of-same (others (with_budget books (suc index) bytes)) (with_budget (others books) index bytes) mirrors
    (others-raised books index bytes)
    ∙ present-lower (others books) mirrors index bytes high)

-- a service that opens has the mirrors' own budgets
pub present-opened : (mirrors : List Mirror) → with_budgets_of (opened_book mirrors) mirrors ≡ mirrors
present-opened [] = refl
present-opened (mirror ∷ mirrors) =
    ap (λ (rest : List Mirror). mirror ∷ rest)
    (with_budgets_of-same (others (opened_book (mirror ∷ mirrors))) (opened_book mirrors) mirrors (λ index. refl) ∙ present-opened mirrors)

module _ (mirrors : List Mirror) (service : Service) where
  present-decided : (worker mirror bytes : ℕ) → present mirrors (decided mirrors worker mirror bytes service) ≡ present mirrors service
  present-decided worker mirror bytes =
      cond_both (has_room (service.books mirror) bytes) (granted worker mirror bytes service)
      (rejected mirrors worker mirror service)
      (λ (after : Service). present mirrors after ≡ present mirrors service)
      (λ room. with_budgets_of-same (granted worker mirror bytes service).books service.books mirrors (λ index. refl))
      (λ none. refl)

  -- an event changes the present mirrors by a raise alone
  present-event : (event : Event) → present mirrors (happens mirrors service event) ≡ mirrors_after event (present mirrors service)
  present-event (Publish known batch) = refl
  present-event (Enter worker) = refl
  present-event (Learn worker number) = refl
  present-event (Plan worker request tables) = refl
  present-event (Grant worker mirror bytes) =
      cond_both (asks mirrors service worker mirror bytes) (decided mirrors worker mirror bytes service) service
      (λ (after : Service). present mirrors after ≡ present mirrors service)
      (λ asking. present-decided worker mirror bytes) (λ none. refl)
  present-event (Reject worker mirror bytes) =
      cond_both (asks mirrors service worker mirror bytes) (rejected mirrors worker mirror service) service
      (λ (after : Service). present mirrors after ≡ present mirrors service) (λ asking. refl) (λ none. refl)
  present-event (Render worker moment) = refl
  present-event (Drop worker) = refl
  present-event (Raise mirror bytes) =
      let now = present mirrors service in
      cond_both (leb (budget_at now mirror) bytes) (raise_at now mirror bytes) now
      (λ (after : List Mirror). present mirrors (happens mirrors service (Raise mirror bytes)) ≡ after)
      (λ low. present-raised service.books mirrors mirror bytes (leb-true (budget_at now mirror) bytes low))
      (λ high. present-lower service.books mirrors mirror bytes (omega (arith, leb-false (budget_at now mirror) bytes high)))

present-run : (mirrors : List Mirror) (events : List Event) (service : Service) →
    present mirrors (run happens mirrors service events) ≡ mirrors_by events (present mirrors service)
present-run mirrors [] service = refl
present-run mirrors (event ∷ events) service =
    present-run mirrors events (happens mirrors service event) ∙ ap (mirrors_by events) (present-event mirrors service event)

pub budgets_are_those_of_raises : BudgetsAreThoseOfRaises happens
budgets_are_those_of_raises mirrors start workers events accepted =
    present-run mirrors events (opened mirrors start workers) ∙ ap (mirrors_by events) (present-opened mirrors)
