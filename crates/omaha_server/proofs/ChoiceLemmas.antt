-- Lists made of what is known at each index.
use Rattle.std.proofs.Common.{◌≡◌, ℕ, zero, suc, ◌<◌, List, [], ◌∷◌, refl, ap, arith, get_or, length}
use Rattle.std.specs.List.{AllZip}

-- what holds of a first item and, one further on, of the others
with_first :
    {A : Type 0} (Holds : ℕ → A → Type 0) (first : A) (items : List A) (count : ℕ) → Holds 0 first →
    ((index : ℕ) (d : A) → index < count → Holds (suc index) (get_or items index d)) →
    (index : ℕ) (d : A) → index < suc count → Holds index (get_or (first ∷ items) index d)
with_first Holds first items count here rest zero d below = here
with_first Holds first items count here rest (suc index) d below = rest index d (omega (arith, below))

-- if there is something at each index, there is a list of it
pub chosen :
    {A : Type 0} (Holds : ℕ → A → Type 0) (count : ℕ) → ((index : ℕ) → index < count → (item : A) × Holds index item) →
    (items : List A) × (length items ≡ count) × ((index : ℕ) (d : A) → index < count → Holds index (get_or items index d))
chosen {A} Holds zero each = ([], refl, λ index d below. absurd (omega (arith, below)))
chosen {A} Holds (suc count) each =
    let first = each 0 (omega arith) in
    let rest = chosen (λ (index : ℕ) (item : A). Holds (suc index) item) count (λ index below. each (suc index) (omega (arith, below))) in
    (first.0 ∷ rest.0, ap suc rest.1, with_first Holds first.0 rest.0 count first.1 rest.2)

-- two lists that agree at each index agree item by item
pub AllZip-by :
    {A B : Type 0} (Agree : A → B → Type 0) (one : List A) (other : List B) → length one ≡ length other →
    ((index : ℕ) (a : A) (b : B) → index < length one → Agree (get_or one index a) (get_or other index b)) →
    AllZip Agree one other
AllZip-by Agree [] [] same each = tt
AllZip-by Agree [] (b ∷ other) same each = cc same
AllZip-by Agree (a ∷ one) [] same each = cc same
AllZip-by Agree (a ∷ one) (b ∷ other) same each = (
  each 0 a b (omega arith),
  AllZip-by Agree one other (omega (arith, same)) (λ index x y below. each (suc index) x y (omega (arith, below))),
)
