-- Which payload of the least sum comes first: the one of the highest score.
use Rattle.std.proofs.Common.{◌≡◌, ℕ, ◌+◌, ◌*◌, ◌<◌, ◌≤◌, ◌⊎◌, inl, inr, ◌&&◌, ◌||◌, Bool, true, false, eqb, ltb, refl, sym, ap, ◌∙◌, arith}
use Rattle.std.proofs.lemmas.Bool.{cases_lt, cases_order, eq-eqb, lt-ltb, or_right, and_from}
use Rattle.catalogue.specs.declared.content.App.{App}
use Rattle.payload_graph.specs.Chains.{destination_of}
use Rattle.payload_graph.specs.declared.payload.Payload.{Payload}
use Rattle.payload_graph.specs.declared.payload.Payload.TheVariants.{Full, Differ}
use Rattle.quotes.specs.Quotes.{yields}

-- the destination counts first, then whether it is a differential
abbrev pub rank_of : Payload → ℕ
rank_of (Full release) = 0
rank_of (Differ index) = 1

abbrev pub score : App → Payload → ℕ
score app payload = 2 * destination_of app payload + rank_of payload

lower_or_last : (low high : ℕ) (last : Bool) → low ≤ high → (low ≡ high → last ≡ true) →
    (ltb low high || (eqb low high && last)) ≡ true
lower_or_last low high last least ties = elim (cases_lt low high) [
  | inl less ↦ ap (λ b. b || (eqb low high && last)) (lt-ltb low high less)
  | inr past ↦
      let same : low ≡ high = omega arith in
      or_right (ltb low high) (eqb low high && last) (and_from (eqb low high) last (eq-eqb low high same) (ties same))
]

pub yields-score : (app : App) (payload other : Payload) → score app payload ≤ score app other → yields app payload other ≡ true
yields-score app (Full low) (Full high) least = lower_or_last low high true (omega arith) (λ _. refl)
yields-score app (Full low) (Differ high) least =
    lower_or_last low (destination_of app (Differ high)) true (omega arith) (λ _. refl)
yields-score app (Differ low) (Full high) least =
    lower_or_last (destination_of app (Differ low)) high false (omega arith) (λ same. absurd (omega arith))
yields-score app (Differ low) (Differ high) least =
    lower_or_last (destination_of app (Differ low)) (destination_of app (Differ high)) true (omega arith) (λ _. refl)

-- a smaller sum comes before a larger one; of equal sums the one of the higher score
abbrev pub IsBefore : ℕ → ℕ → ℕ → ℕ → Type 0
IsBefore sum score other_sum other_score = (sum < other_sum) ⊎ ((sum ≡ other_sum) × (other_score ≤ score))

pub IsBefore-total : (sum score other_sum other_score : ℕ) →
    IsBefore sum score other_sum other_score ⊎ IsBefore other_sum other_score sum score
IsBefore-total sum score other_sum other_score = elim (cases_order sum other_sum) [
  | inl same ↦ elim (cases_lt score other_score) [
    | inl less ↦ inr (inr (sym same, omega arith))
    | inr past ↦ inl (inr (same, past))
  ]
  | inr (inl less) ↦ inl (inl less)
  | inr (inr more) ↦ inr (inl more)
]

pub IsBefore-trans :
    (sum score middle_sum middle_score other_sum other_score : ℕ) →
    IsBefore sum score middle_sum middle_score → IsBefore middle_sum middle_score other_sum other_score →
    IsBefore sum score other_sum other_score
IsBefore-trans sum score middle_sum middle_score other_sum other_score (inl first) (inl second) = inl (omega arith)
IsBefore-trans sum score middle_sum middle_score other_sum other_score (inl first) (inr second) = inl
    (let same = second.0 in omega arith)
IsBefore-trans sum score middle_sum middle_score other_sum other_score (inr first) (inl second) = inl
    (let same = first.0 in omega arith)
IsBefore-trans sum score middle_sum middle_score other_sum other_score (inr first) (inr second) =
    inr (first.0 ∙ second.0, let one = first.1 in let two = second.1 in omega arith)
