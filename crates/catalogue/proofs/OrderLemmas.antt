-- The order of versions is strict and total.
use Rattle.std.proofs.Common.{◌≡◌, true, false, List, ℕ, Ordering, refl, ap}
use Rattle.std.specs.declared.cmp.Ordering.TheVariants.{Less, Equal, Greater}
use Rattle.std.specs.Ordering.{is_lt, ordering_reverse}
use Rattle.std.proofs.lemmas.Cmp.{nat_list_cmp_total, tied_itself}
use Rattle.std.proofs.lemmas.Map.Lookups.{exact_bytes}
use Rattle.catalogue.specs.Versions.{is_below}

-- a result that is below is `Less`
Less-from_is_lt : (answer : Ordering) → is_lt answer ≡ true → answer ≡ Less
Less-from_is_lt Less below = refl
Less-from_is_lt Equal below = cc
Less-from_is_lt Greater below = cc

-- two that are neither below the other are equal
Equal-from_neither :
    (answer back : Ordering) →
    answer ≡ ordering_reverse back →
    is_lt answer ≡ false →
    is_lt back ≡ false →
    answer ≡ Equal
Equal-from_neither Less back turned not_below not_above = cc
Equal-from_neither Equal back turned not_below not_above = refl
Equal-from_neither Greater Less turned not_below not_above = cc
Equal-from_neither Greater Equal turned not_below not_above = cc
Equal-from_neither Greater Greater turned not_below not_above = cc

-- no version is below itself
pub is_below-irreflexive : (version : List ℕ) → is_below version version ≡ false
is_below-irreflexive version = ap is_lt (tied_itself nat_list_cmp_total version)

-- what is below a version is below all that this version is below
pub is_below-trans :
    (low middle high : List ℕ) →
    is_below low middle ≡ true →
    is_below middle high ≡ true →
    is_below low high ≡ true
is_below-trans low middle high below above =
    ap is_lt (nat_list_cmp_total.trans low middle high (Less-from_is_lt _ below) (Less-from_is_lt _ above))

-- of two versions that differ, one is below the other
pub is_below-total :
    (left right : List ℕ) →
    is_below left right ≡ false →
    is_below right left ≡ false →
    left ≡ right
is_below-total left right not_below not_above =
    exact_bytes left right (Equal-from_neither _ _ (nat_list_cmp_total.antisymm left right) not_below not_above)
