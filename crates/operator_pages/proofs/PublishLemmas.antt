-- One more item before the others of a list that is kept in ten places.
use Rattle.std.proofs.Common.{◌≡◌, ◌≤◌, ◌+◌, ◌∙◌, ℕ, List, [], ◌∷◌, get_or, length, min, refl, suc, sym, take, zero, arith, ap}

module _ {A : Type 0} where
  nine_of : (kept : List A) (d : A) → length kept ≡ 10 →
      get_or kept 0 d ∷ get_or kept 1 d ∷ get_or kept 2 d ∷ get_or kept 3 d ∷ get_or kept 4 d ∷ get_or kept 5 d ∷ get_or kept 6 d
      ∷ get_or kept 7 d ∷ get_or kept 8 d ∷ [] ≡ take 9 kept
  nine_of (a ∷ b ∷ c ∷ e ∷ f ∷ g ∷ h ∷ i ∷ j ∷ others) d sized = refl
  nine_of others d sized = absurd (omega (arith, sized))

  take-take : (m n : ℕ) (xs : List A) → take m (take n xs) ≡ take (min m n) xs
  take-take zero n xs = let none : min zero n ≡ zero = omega arith in ap (λ (k : ℕ). take k xs) (sym none)
  take-take (suc m) zero xs = let none : min (suc m) zero ≡ zero = omega arith in ap (λ (k : ℕ). take k xs) (sym none)
  take-take (suc m) (suc n) [] = let one : min (suc m) (suc n) ≡ suc (min m n) = omega arith in ap (λ (k : ℕ). take k []) (sym one)
  take-take (suc m) (suc n) (x ∷ xs) =
      let one : min (suc m) (suc n) ≡ suc (min m n) = omega arith in
      ap (λ (rest : List A). x ∷ rest) (take-take m n xs) ∙ ap (λ (k : ℕ). take k (x ∷ xs)) (sym one)

  pub push_first : (item : A) (kept : List A) (many : ℕ) (d : A) → length kept ≡ 10 → many ≤ 10 →
      take (min (many + 1) 10)
      (item ∷ get_or kept 0 d ∷ get_or kept 1 d ∷ get_or kept 2 d ∷ get_or kept 3 d ∷ get_or kept 4 d ∷ get_or kept 5 d ∷ get_or kept 6 d
      ∷ get_or kept 7 d ∷ get_or kept 8 d ∷ [])
      ≡ take 10 (item ∷ take many kept)
  push_first item kept many d sized few =
      let one : min (many + 1) 10 ≡ suc (min many 9) = omega arith in
      let both : min (min many 9) 9 ≡ min 9 many = omega arith in
      ap (λ (nine : List A). take (min (many + 1) 10) (item ∷ nine)) (nine_of kept d sized)
      ∙ ap (λ (n : ℕ). take n (item ∷ take 9 kept)) one
      ∙ ap (λ (rest : List A). item ∷ rest) (take-take (min many 9) 9 kept ∙ ap (λ (n : ℕ). take n kept) both ∙ sym (take-take 9 many kept))
