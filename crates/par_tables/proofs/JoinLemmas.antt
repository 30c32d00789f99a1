-- Joined lists of one item more.
use Rattle.std.proofs.Common.{◌≡◌, ℕ, ◌+◌, ◌<◌, List, [], ◌∷◌, ◌++◌, get_or, length, take, sym, ap, ◌∙◌, arith}
use Rattle.std.proofs.lemmas.List.{append-nil, append_assoc, length-take-le, take_more}
use Rattle.par_tables.specs.Tracks.{joined_from}

joined_from-append :
    {A B : Type 0} (f : ℕ → A → List B) (index : ℕ) (xs ys : List A) →
    joined_from f index (xs ++ ys) ≡ joined_from f index xs ++ joined_from f (index + length xs) ys
joined_from-append f index [] ys = let same : index ≡ index + 0 = omega arith in ap (λ n. joined_from f n ys) same
joined_from-append f index (x ∷ xs) ys =
    let count : index + 1 + length xs ≡ index + length (x ∷ xs) = omega arith in
    ap (λ zs. f index x ++ zs) (joined_from-append f (index + 1) xs ys)
    ∙ ap (λ n. f index x ++ (joined_from f (index + 1) xs ++ joined_from f n ys)) count
    ∙ sym (append_assoc (f index x) (joined_from f (index + 1) xs) (joined_from f (index + length (x ∷ xs)) ys))

-- one item more
pub joined_from-more :
    {A B : Type 0} (f : ℕ → A → List B) (xs : List A) (n : ℕ) (d : A) → n < length xs →
    joined_from f 0 (take (n + 1) xs) ≡ joined_from f 0 (take n xs) ++ f n (get_or xs n d)
joined_from-more f xs n d within =
    let size = length-take-le n xs (omega arith) in
    let count : 0 + length (take n xs) ≡ n = omega arith in
    ap (joined_from f 0) (take_more xs n d within)
    ∙ joined_from-append f 0 (take n xs) (get_or xs n d ∷ [])
    ∙ ap (λ m. joined_from f 0 (take n xs) ++ (f m (get_or xs n d) ++ [])) count
    ∙ ap (λ ys. joined_from f 0 (take n xs) ++ ys) (append-nil (f n (get_or xs n d)))
