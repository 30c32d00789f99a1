-- What the names of ledgers carry, by the mirrors that are handed in.
use Rattle.std.proofs.Common.{◌≡◌, ℕ, zero, suc, ◌≤◌, Bool, true, false, List, [], ◌∷◌, arith, refl}
use Rattle.std.proofs.lemmas.Bool.{false≢true, leb-true}
use Rattle.catalogue.specs.Mirrors.{max_budget}
use Rattle.catalogue.specs.declared.mirror.Mirror.{Mirror}
use Rattle.mirror_ledger.specs.Named.{AreFixed, AreTops, are_bounded, budget_at, max_at}
use Rattle.mirror_ledger.proofs.PairLemmas.{both-true}

-- the first budget of the mirror at an index is at most the maximum
budget_at-bounded : (mirrors : List Mirror) (index : ℕ) → are_bounded mirrors ≡ true → budget_at mirrors index ≤ max_budget
budget_at-bounded [] index bounded = omega arith
budget_at-bounded (mirror ∷ mirrors) zero bounded =
    leb-true mirror.budget max_budget (both-true _ _ bounded).0
budget_at-bounded (mirror ∷ mirrors) (suc index) bounded = budget_at-bounded mirrors index (both-true _ _ bounded).1

-- and at most what it may come to
pub max_at-reached : (rises : Bool) (mirrors : List Mirror) (index : ℕ) → are_bounded mirrors ≡ true →
    budget_at mirrors index ≤ max_at rises mirrors index
max_at-reached true mirrors index bounded = budget_at-bounded mirrors index bounded
max_at-reached false mirrors index bounded = omega arith

-- all of these may be raised, or none
pub AreTops-max_at : (rises : Bool) (mirrors : List Mirror) →
    AreTops rises mirrors (max_at rises mirrors 0) (max_at rises mirrors 1) (max_at rises mirrors 2) (max_at rises mirrors 3)
AreTops-max_at true mirrors = record {
  rising = λ is. refl;
  fixed = λ is. absurd (false≢true is);
}
AreTops-max_at false mirrors = record {
  rising = λ is. absurd (false≢true is);
  fixed = λ is. record { at_first = omega arith; at_second = omega arith; at_third = omega arith; at_fourth = omega arith };
}

-- no budget may be raised
pub AreTops-fixed : (mirrors : List Mirror) (first second third fourth : ℕ) →
    AreFixed mirrors first second third fourth → AreTops false mirrors first second third fourth
AreTops-fixed mirrors first second third fourth fixed = record { rising = λ is. absurd (false≢true is); fixed = λ is. fixed }
