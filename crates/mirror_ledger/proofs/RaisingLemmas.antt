-- The mirrors after one budget was raised.
use Rattle.std.proofs.Common.{◌≡◌, ℕ, zero, suc, ◌<◌, List, [], ◌∷◌, ap, arith, get_or, length, refl, set}
use Rattle.catalogue.specs.declared.mirror.Mirror.{Mirror}
use Rattle.mirror_ledger.specs.Named.{budget_at}
use Rattle.mirror_ledger.specs.Raising.{raise_at}

-- the one at the index has the budget
pub budget_at-raised : (mirrors : List Mirror) (index budget : ℕ) → index < length mirrors →
    budget_at (raise_at mirrors index budget) index ≡ budget
budget_at-raised [] index budget below = absurd (omega (arith, below))
budget_at-raised (mirror ∷ mirrors) zero budget below = refl
budget_at-raised (mirror ∷ mirrors) (suc index) budget below = budget_at-raised mirrors index budget (omega (arith, below))

-- each other one has its own
pub budget_at-other : (mirrors : List Mirror) (index other budget : ℕ) → (index ≡ other → ⊥) →
    budget_at (raise_at mirrors index budget) other ≡ budget_at mirrors other
budget_at-other [] index other budget apart = refl
budget_at-other (mirror ∷ mirrors) zero zero budget apart = absurd (apart refl)
budget_at-other (mirror ∷ mirrors) zero (suc other) budget apart = refl
budget_at-other (mirror ∷ mirrors) (suc index) zero budget apart = refl
budget_at-other (mirror ∷ mirrors) (suc index) (suc other) budget apart =
    budget_at-other mirrors index other budget (λ same. apart (ap suc same))

-- the mirror at the index in place of itself, with the budget
pub raise_at-set : (mirrors : List Mirror) (index budget : ℕ) (mirror : Mirror) → mirror ≡ get_or mirrors index mirror → index < length mirrors →
    set mirrors index (record { name = mirror.name; codebase = mirror.codebase; budget = budget }) ≡ raise_at mirrors index budget
raise_at-set [] index budget mirror is below = absurd (omega (arith, below))
raise_at-set (first ∷ mirrors) zero budget mirror is below =
    ap (λ (m : Mirror). record { name = m.name; codebase = m.codebase; budget = budget } ∷ mirrors) is
raise_at-set (first ∷ mirrors) (suc index) budget mirror is below =
    ap (λ (rest : List Mirror). first ∷ rest) (raise_at-set mirrors index budget mirror is (omega (arith, below)))
