-- How far a release is from the target: at most so many payloads follow.
use Rattle.std.proofs.Common.{◌≡◌, ℕ, suc, ◌+◌, ◌-◌, ◌<◌, ◌≤◌, ◌⊎◌, inl, inr, arith}
use Rattle.std.proofs.lemmas.Bool.{cases_lt}
use Rattle.payload_graph.specs.Soundness.{LeadsNearer}

-- a release at or below the target is at most so many releases below it; one above the target is at most
-- so many releases above the first one
abbrev pub IsRank : ℕ → ℕ → ℕ → Type 0
IsRank target from rank = ((from ≤ target) × (target ≤ from + rank)) ⊎ ((target < from) × (from ≤ rank))

-- the rank falls with each payload that leads nearer the target
pub IsRank-nearer :
    (target from to rank : ℕ) → IsRank target from (suc rank) → LeadsNearer target from to → IsRank target to rank
IsRank-nearer target from to rank (inl low) (inl up) = inl (up.1, omega arith)
IsRank-nearer target from to rank (inl low) (inr down) = absurd (omega arith)
IsRank-nearer target from to rank (inr high) (inl up) = absurd (omega arith)
IsRank-nearer target from to rank (inr high) (inr down) = elim (cases_lt target to) [
  | inl above ↦ inr (above, omega arith)
  | inr below ↦ inl (below, omega arith)
]

-- nothing is nearer than the target
pub IsRank-zero : (target from : ℕ) → IsRank target from 0 → from ≡ target
IsRank-zero target from (inl low) = omega arith
IsRank-zero target from (inr high) = absurd (omega arith)

-- of so many releases each has a lower rank
pub IsRank-within : (target from count : ℕ) → target < count → from < count → IsRank target from (count - 1)
IsRank-within target from count target_in from_in = elim (cases_lt target from) [
  | inl above ↦ inr (above, omega arith)
  | inr below ↦ inl (below, omega arith)
]
