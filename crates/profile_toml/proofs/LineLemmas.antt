-- Strings in which no line ends, and the indices among them.
use Rattle.std.proofs.Common.{◌≡◌, ℕ, zero, suc, ◌+◌, ◌/◌, ◌%◌, ◌<◌, ◌==◌, ◌||◌, cond, nat_lt, List, [], ◌∷◌, ◌++◌, Bool, true, false, codes, decimal, refl, arith, lt-ltb, eqb-true}
use Rattle.std.specs.Fmt.{digit_glyph, digits, digits_onto}
use Rattle.std.specs.List.{list_any}
use Rattle.std.proofs.lemmas.List.Folds.{list_any-append}
use Rattle.profile_toml.specs.TableLaws.{IsOneLine, ends_line}
use Rattle.profile_toml.specs.Paths.{indexed}

-- a byte of a kind that has neither of the two
pub ends_line-apart : (is_kind : ℕ → Bool) → is_kind 10 ≡ false → is_kind 13 ≡ false
    → (byte : ℕ) → is_kind byte ≡ true → ends_line byte ≡ false
ends_line-apart is_kind no_feed no_return byte of_kind = by_test (byte == 10) (byte == 13) refl refl
  where
    by_test : (feed return : Bool) → (byte == 10) ≡ feed → (byte == 13) ≡ return
        → (feed || return) ≡ false
    by_test true return feeds returns =
        let same : byte ≡ 10 = eqb-true byte 10 feeds in absurd (cc)
    by_test false true feeds returns =
        let same : byte ≡ 13 = eqb-true byte 13 returns in absurd (cc)
    by_test false false feeds returns = refl

both : (left right : Bool) → left ≡ false → right ≡ false → (left || right) ≡ false
both false false none_left none_right = refl
both false true none_left none_right = absurd (cc)
both true right none_left none_right = absurd (cc)

pub IsOneLine-append : (left right : List ℕ)
    → IsOneLine left → IsOneLine right → IsOneLine (left ++ right)
IsOneLine-append left right of_left of_right =
    rw (list_any-append ends_line left right)
    (both (list_any ends_line left) (list_any ends_line right) of_left of_right)

pub IsOneLine-cons : (byte : ℕ) (text : List ℕ)
    → ends_line byte ≡ false → IsOneLine text → IsOneLine (byte ∷ text)
IsOneLine-cons byte text stays of_text =
    both (ends_line byte) (list_any ends_line text) stays of_text

-- if each way to write a string has one line
pub IsOneLine-cond : (test : Bool) (one other : List ℕ)
    → (test ≡ true → IsOneLine one) → (test ≡ false → IsOneLine other)
    → IsOneLine (cond test one other)
IsOneLine-cond true one other of_one of_other = of_one refl
IsOneLine-cond false one other of_one of_other = of_other refl

ends_line-above : (byte : ℕ) → 13 < byte → ends_line byte ≡ false
ends_line-above byte above = ends_line-apart (nat_lt 13) refl refl byte (lt-ltb 13 byte above)

pub ends_line-digit_glyph : (upper : Bool) (digit : ℕ) → ends_line (digit_glyph upper digit) ≡ false
ends_line-digit_glyph upper digit = ends_line-above _ (by_test (nat_lt digit 10) upper)
  where
    by_test : (small capital : Bool)
        → 13 < cond small (48 + digit) (cond capital (55 + digit) (87 + digit))
    by_test true capital = omega arith
    by_test false true = omega arith
    by_test false false = omega arith

IsOneLine-digits_onto : (count base : ℕ) (upper : Bool) (number : ℕ) (text : List ℕ)
    → IsOneLine text → IsOneLine (digits_onto count base upper number text)
IsOneLine-digits_onto zero base upper number text of_text = of_text
IsOneLine-digits_onto (suc count) base upper number text of_text =
    let digit = digit_glyph upper (number % base) in
    let longer = IsOneLine-cons digit text (ends_line-digit_glyph upper (number % base)) of_text in
    IsOneLine-cond (number / base == 0) _ _ (λ last. longer)
    (λ more. IsOneLine-digits_onto count base upper (number / base) (digit ∷ text) longer)

pub IsOneLine-decimal : (number : ℕ) → IsOneLine (decimal number)
unfolding digits
IsOneLine-decimal number = IsOneLine-digits_onto 64 10 false number [] refl

pub IsOneLine-indexed : (path : List ℕ) (index : ℕ)
    → IsOneLine path → IsOneLine (indexed path index)
IsOneLine-indexed path index of_path =
    let of_front = IsOneLine-append path (codes "[") of_path refl in
    let of_number =
    IsOneLine-append (path ++ codes "[") (decimal index) of_front (IsOneLine-decimal index) in
    IsOneLine-append (path ++ codes "[" ++ decimal index) (codes "]") of_number refl
