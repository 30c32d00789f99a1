-- Lists that are gone through side by side, one item at a time.
use Rattle.std.proofs.Common.{◌≡◌, ℕ, zero, suc, ◌+◌, ◌<◌, ◌≤◌, List, [], ◌∷◌, ◌++◌, length, map, take, get_or, refl, ap, sym, ◌∙◌, subst, arith}
use Rattle.std.specs.List.{AllZip, zip}
use Rattle.std.proofs.lemmas.List.{get_or-map, length-map, map_more, take_all, take_more}
use Rattle.std.proofs.lemmas.Slice.Zip.{all_zipped_more, get_or-zip, length-zip}

-- a relation holds along one more item of each list
pub AllZip-more : {A B : Type 0} (R : A → B → Type 0) (xs : List A) (ys : List B) (index : ℕ) (x : A) (y : B) → index < length xs → x ≡ get_or xs index x → AllZip R (take index xs) ys → R x y → AllZip R (take (index + 1) xs) (ys ++ y ∷ [])
AllZip-more R xs ys index x y within item before here =
    rw (take_more xs index x within)
    (subst (λ z. AllZip R (take index xs ++ z ∷ []) (ys ++ y ∷ [])) item (all_zipped_more R (take index xs) ys x y before here))

-- what holds along two lists holds of the items at an index
pub AllZip-at : {A B : Type 0} (R : A → B → Type 0) (xs : List A) (ys : List B) (index : ℕ) (x : A) (y : B) → AllZip R xs ys → index < length xs → R (get_or xs index x) (get_or ys index y)
AllZip-at R [] ys index x y along within = absurd (omega arith)
AllZip-at R (first ∷ xs) [] index x y along within = absurd along
AllZip-at R (first ∷ xs) (second ∷ ys) zero x y along within = along.0
AllZip-at R (first ∷ xs) (second ∷ ys) (suc index) x y along within =
    AllZip-at R xs ys index x y along.1 (omega arith)

module _ {A B C P : Type 0} (payload : B → P) (xs : List A) (ys : List B) (zs : List C) (one_each : length ys ≡ length xs) (all_each : length zs ≡ length ys) where
  -- the lists side by side are as long as each
  length-side_by_side : length (zip xs (zip (map payload ys) zs)) ≡ length xs
  length-side_by_side =
      omega (arith, length-zip xs (zip (map payload ys) zs), length-zip (map payload ys) zs, length-map ys payload)

  -- the items of the lists side by side
  get_or-side_by_side : (index : ℕ) (x : A) (y : B) (z : C) → index < length xs → get_or (zip xs (zip (map payload ys) zs)) index (x, (payload y, z)) ≡ (get_or xs index x, (payload (get_or ys index y), get_or zs index z))
  get_or-side_by_side index x y z within =
      let behind : index < length (zip (map payload ys) zs) = omega (arith, length-zip (map payload ys) zs, length-map ys payload) in
      let mapped : index < length (map payload ys) = omega (arith, length-map ys payload) in
      let both = get_or-zip xs (zip (map payload ys) zs) index (x, (payload y, z)) within behind in
      let pair = get_or-zip (map payload ys) zs index (payload y, z) mapped (omega arith) in
      let chosen = get_or-map payload ys index y (payload y) (omega arith) in
      both ∙ rw (pair, chosen) refl

  -- what is made of one more item of each
  pub map-side_by_side : {D : Type 0} (f : A × (P × C) → D) (index : ℕ) (x : A) (y : B) (z : C) → index < length xs → x ≡ get_or xs index x → map f (take (index + 1) (zip xs (zip (map payload ys) zs))) ≡ map f (take index (zip xs (zip (map payload ys) zs))) ++ f (x, (payload (get_or ys index y), get_or zs index z)) ∷ []
  map-side_by_side f index x y z within item =
      let sides = zip xs (zip (map payload ys) zs) in
      let there : index < length sides = omega (arith, length-side_by_side) in
      map_more f sides index (x, (payload y, z)) there
      ∙ ap (λ side. map f (take index sides) ++ f side ∷ []) (get_or-side_by_side index x y z within)
      ∙ ap (λ first. map f (take index sides) ++ f (first, (payload (get_or ys index y), get_or zs index z)) ∷ []) (sym item)

  -- all items have been gone through at the length of the first list
  pub take-side_by_side : (index : ℕ) → length xs ≤ index → take index (zip xs (zip (map payload ys) zs)) ≡ zip xs (zip (map payload ys) zs)
  take-side_by_side index past =
      take_all index (zip xs (zip (map payload ys) zs)) (omega (arith, length-side_by_side))
