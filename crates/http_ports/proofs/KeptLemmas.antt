-- What is kept for a slot, after it was replaced at one.
use Rattle.std.proofs.Common.{◌≡◌, ◌≢◌, ◌<◌, ℕ, zero, suc, List, [], ◌∷◌, length, Option, refl, ap, arith}
use Rattle.std.proofs.Math.ListN.{set, get_or}
use Rattle.http_ports.specs.Loops.{kept_at}

pub kept_at-is-get_or :
    {C : Type 0} (items : List (Option C)) (at : ℕ) (other : Option C) →
    at < length items → kept_at items at ≡ get_or items at other
kept_at-is-get_or [] at other within = absurd (omega (arith, within))
kept_at-is-get_or (item ∷ items) zero other within = refl
kept_at-is-get_or (item ∷ items) (suc at) other within = kept_at-is-get_or items at other (omega (arith, within))

pub kept_at-set-here :
    {C : Type 0} (items : List (Option C)) (at : ℕ) (item : Option C) →
    at < length items → kept_at (set items at item) at ≡ item
kept_at-set-here [] at item within = absurd (omega (arith, within))
kept_at-set-here (first ∷ items) zero item within = refl
kept_at-set-here (first ∷ items) (suc at) item within = kept_at-set-here items at item (omega (arith, within))

pub kept_at-set-elsewhere :
    {C : Type 0} (items : List (Option C)) (at : ℕ) (item : Option C) (k : ℕ) →
    k ≢ at → kept_at (set items at item) k ≡ kept_at items k
kept_at-set-elsewhere [] at item k other = refl
kept_at-set-elsewhere (first ∷ items) zero item zero other = absurd (other refl)
kept_at-set-elsewhere (first ∷ items) zero item (suc k) other = refl
kept_at-set-elsewhere (first ∷ items) (suc at) item zero other = refl
kept_at-set-elsewhere (first ∷ items) (suc at) item (suc k) other =
    kept_at-set-elsewhere items at item k (λ same. other (ap suc same))
