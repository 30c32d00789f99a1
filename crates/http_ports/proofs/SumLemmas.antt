-- Sums over slots, of which one changes.
use Rattle.std.proofs.Common.{◌≡◌, ◌≢◌, ◌<◌, ◌≤◌, ◌+◌, ℕ, zero, suc, refl, subst, ap, inl, inr, arith}
use Rattle.std.specs.Prelude.{◌⊎◌}
use Rattle.http_ports.specs.Sums.{sum_below}

-- the same numbers have the same sum
pub sum_below-same :
    (slots : ℕ) (old new : ℕ → ℕ) → ((k : ℕ) → k < slots → new k ≡ old k) → sum_below slots new ≡ sum_below slots old
sum_below-same zero old new same = refl
sum_below-same (suc slots) old new same =
    let before = sum_below-same slots old new (λ k below. same k (omega (arith, below))) in
    let last = same slots (omega arith) in
    omega (arith, before, last)

-- an index at most as large is below, or the same
split : (at slots : ℕ) → at ≤ slots → (at < slots) ⊎ (at ≡ slots)
split zero zero within = inr refl
split zero (suc slots) within = inl (omega arith)
split (suc at) zero within = absurd (omega (arith, within))
split (suc at) (suc slots) within =
    elim (split at slots (omega (arith, within))) as (λ _. (suc at < suc slots) ⊎ (suc at ≡ suc slots))
    [ inl below ↦ inl (omega (arith, below)) | inr same ↦ inr (ap suc same) ]

-- one number grows, so the sum does
pub sum_below-grows :
    (slots at more : ℕ) (old new : ℕ → ℕ) →
    at < slots → new at ≡ old at + more → ((k : ℕ) → k ≢ at → new k ≡ old k) →
    sum_below slots new ≡ sum_below slots old + more
sum_below-grows zero at more old new within here elsewhere = absurd (omega (arith, within))
sum_below-grows (suc slots) at more old new within here elsewhere = elim (split at slots (omega (arith, within))) [
  | inl below ↦
      (let before = sum_below-grows slots at more old new below here elsewhere in
      let last = elsewhere slots (λ same. omega (arith, same, below)) in
      omega (arith, before, last))
  | inr same ↦
      (let before = sum_below-same slots old new (λ k under. elsewhere k (λ is. omega (arith, is, same, under))) in
      let last : new slots ≡ old slots + more = subst (λ (k : ℕ). new k ≡ old k + more) same here in
      omega (arith, before, last))
]
