-- A list that is cut at the first item which passes: what is before it and what is after it.
use Rattle.std.proofs.Common.{◌≡◌, ℕ, ◌+◌, Bool, true, cond, List, [], ◌∷◌, ◌++◌, length, drop, take, ltb, not, Option, None, Some, append_assoc, refl, sym, ap, ◌∙◌, arith, length-append}
use Rattle.std.specs.Prelude.{position}
use Rattle.std.specs.List.{list_all, position_or_len}
use Rattle.std.specs.Option.{option_map}
use Rattle.std.proofs.lemmas.Bool.{and_parts, lt-ltb, not-true}
use Rattle.std.proofs.lemmas.List.{drop_at, take_at}
use Rattle.certificates.specs.Forms.{first_of, is_space, rest_of}
use Rattle.certificates.specs.Reading.{is_feed, line_split}
use Rattle.certificates.specs.Strings.{ended}
use Rattle.certificates.proofs.VisibleLemmas.{IsLine, IsVisible, no_feed, no_space}

-- the first item that passes is after those that don't
position_or_len-cut :
    {A : Type 0} (p : A → Bool) (front : List A) (item : A) (back : List A) →
    list_all (λ x. not (p x)) front ≡ true → p item ≡ true → position_or_len p (front ++ item ∷ back) ≡ length front
position_or_len-cut p [] item back none passes = rw passes refl
position_or_len-cut p (first ∷ front) item back none passes =
    let parts = and_parts _ _ none in
    rw (not-true (p first) parts.0, position_or_len-cut p front item back parts.1 passes) (omega arith)

drop-cut : {A : Type 0} (front : List A) (item : A) (back : List A) →
    drop (length front + 1) (front ++ item ∷ back) ≡ back
drop-cut front item back =
    rw (← append_assoc front (item ∷ []) back)
    (drop_at (front ++ item ∷ []) back (length front + 1) (length-append front (item ∷ [])))

-- a part before a space, and what is after it
pub first_of-cut : (front back : List ℕ) → IsVisible front → first_of (front ++ 32 ∷ back) ≡ front
first_of-cut front back visible =
    let place = position_or_len-cut is_space front 32 back (no_space front visible) refl in
    take_at front (32 ∷ back) _ (sym place)

pub rest_of-cut : (front back : List ℕ) → IsVisible front → rest_of (front ++ 32 ∷ back) ≡ back
rest_of-cut front back visible =
    let place = position_or_len-cut is_space front 32 back (no_space front visible) refl in
    ap (λ n. drop (n + 1) (front ++ 32 ∷ back)) place ∙ drop-cut front 32 back

-- a line, and what is after its line feed
pub line_split-ended : (line rest : List ℕ) → IsLine line → line_split (ended line ++ rest) ≡ Some (line, rest)
line_split-ended line rest is =
    let whole : List ℕ = line ++ 10 ∷ rest in
    let place = position_or_len-cut is_feed line 10 rest (no_feed line is) refl in
    let count = length-append line (10 ∷ rest) in
    let within : ltb (length line) (length whole) ≡ true = lt-ltb (length line) (length whole) (omega arith) in
    let found : position is_feed whole ≡ Some (length line) =
    ap (λ n. cond (ltb n (length whole)) (Some n) None) place ∙ ap (λ (b : Bool). cond b (Some (length line)) None)
    within in
    ap line_split (append_assoc line (10 ∷ []) rest)
    ∙ ap (λ (o : Option ℕ). option_map {U = List ℕ × List ℕ} (λ at. (take at whole, drop (at + 1) whole)) o) found
    ∙ ap (λ (text : List ℕ). Some (text, drop (length line + 1) whole)) (take_at line (10 ∷ rest) (length line) refl)
    ∙ ap (λ (text : List ℕ). Some (line, text)) (drop-cut line 10 rest)
