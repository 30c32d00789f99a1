-- What has been written of the first rings of several.
use Rattle.std.proofs.Common.{◌≡◌, ◌∙◌, ◌+◌, ◌<◌, ◌≤◌, ℕ, zero, suc, Bool, List, [], ◌∷◌, length, get_or, set, map, drop, refl, sym, subst, ap, arith}
use Rattle.streams.specs.Streams.{Known}
use Rattle.access_logs.specs.Queues.{HasWritten, HaveWritten}

-- what was received through the first rings was written, and nothing was received through the others
abbrev pub WrittenTo : {T : Type 0} → (T → List ℕ) → ℕ → List T → List T → Known → Known → Bool → Bool → Type 0
WrittenTo f zero xs ys old new was is = (ys ≡ xs) × (new ≡ old) × (is ≡ was)
WrittenTo f (suc n) [] [] old new was is = (new ≡ old) × (is ≡ was)
WrittenTo f (suc n) [] (y ∷ ys) old new was is = ⊥
WrittenTo f (suc n) (x ∷ xs) [] old new was is = ⊥
WrittenTo f (suc n) (x ∷ xs) (y ∷ ys) old new was is =
    (between : Known) × (was_between : Bool) × HasWritten (f x) (f y) old between was was_between
    × WrittenTo f n xs ys between new was_between is

-- then the next ring was written
WrittenTo-next :
    {T : Type 0} (f : T → List ℕ) (n : ℕ) (xs ys : List T) (d y : T) (old between new : Known) (was was_between is : Bool) →
    n < length ys → HasWritten (f (get_or ys n d)) (f y) between new was_between is →
    WrittenTo f n xs ys old between was was_between → WrittenTo f (suc n) xs (set ys n y) old new was is
WrittenTo-next f n xs [] d y old between new was was_between is within has to = absurd (omega (arith, within))
WrittenTo-next f zero xs (head ∷ ys) d y old between new was was_between is within has to =
    subst (λ zs. WrittenTo f 1 zs (y ∷ ys) old new was is) to.0 (
      new,
      is,
      subst (λ b. HasWritten (f head) (f y) old new b is) to.2
          (subst (λ k. HasWritten (f head) (f y) k new was_between is) to.1 has),
      (refl, refl, refl),
    )
WrittenTo-next f (suc n) [] (head ∷ ys) d y old between new was was_between is within has to = absurd to
WrittenTo-next f (suc n) (x ∷ xs) (head ∷ ys) d y old between new was was_between is within has (first, was_first, one, rest) = (
  first,
  was_first,
  one,
  WrittenTo-next f n xs ys d y first between new was_first was_between is (omega (arith, within)) has rest,
)

-- the same of the number of rings that the loop has
pub WrittenTo-after :
    {T : Type 0} (f : T → List ℕ) (n : ℕ) (xs ys : List T) (d y : T) (old between new : Known) (was was_between is : Bool) →
    n < length ys → HasWritten (f (get_or ys n d)) (f y) between new was_between is →
    WrittenTo f n xs ys old between was was_between → WrittenTo f (n + 1) xs (set ys n y) old new was is
WrittenTo-after f n xs ys d y old between new was was_between is within has to =
    let one : suc n ≡ n + 1 = omega arith in
    subst (λ m. WrittenTo f m xs (set ys n y) old new was is) one
    (WrittenTo-next f n xs ys d y old between new was was_between is within has to)

-- then nothing is left
pub WrittenTo-all :
    {T : Type 0} (f : T → List ℕ) (n : ℕ) (xs ys : List T) (old new : Known) (was is : Bool) → length xs ≤ n →
    WrittenTo f n xs ys old new was is → HaveWritten (map f xs) (map f ys) old new was is
WrittenTo-all f zero [] ys old new was is most to =
    subst (λ zs. HaveWritten [] (map f zs) old new was is) (sym to.0) (to.1, to.2)
WrittenTo-all f zero (x ∷ xs) ys old new was is most to = absurd (omega (arith, most))
WrittenTo-all f (suc n) [] [] old new was is most to = to
WrittenTo-all f (suc n) [] (y ∷ ys) old new was is most to = to
WrittenTo-all f (suc n) (x ∷ xs) [] old new was is most to = to
WrittenTo-all f (suc n) (x ∷ xs) (y ∷ ys) old new was is most (between, was_between, one, rest) =
    (between, was_between, one, WrittenTo-all f n xs ys between new was_between is (omega (arith, most)) rest)

-- an element that has what the one before it had leaves all as they were
pub map-set_same :
    {T U : Type 0} (f : T → U) (n : ℕ) (ys : List T) (d y : T) → f y ≡ f (get_or ys n d) → map f (set ys n y) ≡ map f ys
map-set_same f n [] d y same = refl
map-set_same f zero (head ∷ ys) d y same = ap (λ xs. xs ∷ map f ys) same
map-set_same f (suc n) (head ∷ ys) d y same = ap (λ xss. f head ∷ xss) (map-set_same f n ys d y same)

-- if nothing has come in the end, nothing came through the next ring, nor through those before
pub none-before :
    {T : Type 0} (f : T → List ℕ) (n : ℕ) (xs ys : List T) (d y : T) (old new : Known) (was is : Bool) →
    n < length ys → WrittenTo f n xs ys old new was is → map f (set ys n y) ≡ map f xs →
    (f y ≡ f (get_or ys n d)) × (map f ys ≡ map f xs)
none-before f n xs [] d y old new was is within to same = absurd (omega (arith, within))
none-before f zero xs (head ∷ ys) d y old new was is within to same =
    let all : f y ∷ map f ys ≡ f head ∷ map f ys = same ∙ ap (map f) (sym to.0) in
    (ap (λ xss. get_or xss 0 []) all, ap (map f) to.0)
none-before f (suc n) [] (head ∷ ys) d y old new was is within to same = absurd to
none-before f (suc n) (x ∷ xs) (head ∷ ys) d y old new was is within (first, was_first, one, rest) same =
    let others = none-before f n xs ys d y first new was_first is (omega (arith, within)) rest (ap (drop 1) same) in (
      others.0,
      ap (λ a. a ∷ map f ys) (ap (λ xss. get_or xss 0 []) same) ∙ ap (λ xss. f x ∷ xss) others.1,
    )
