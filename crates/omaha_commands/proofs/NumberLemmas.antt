-- Decimal digits are UTF-8.
use Rattle.std.proofs.Common.{◌≡◌, ◌<◌, ℕ, true, false, List, [], ◌∷◌, None, get_or, zero, suc, arith}
use Rattle.std.specs.Str.{all_ascii_digits, is_utf8}
use Rattle.std.proofs.lemmas.Bool.{false_from_ne_true}
use Rattle.std.proofs.lemmas.Bool.Decides.{nat_tests}
use Rattle.std.proofs.lemmas.Str.{IsUtf8-from_ascii, is_utf8-from_IsUtf8}
use Rattle.std.proofs.lemmas.Str.Parse.{tells_all_ascii_digits}
use Rattle.omaha_arguments.specs.Options.{number_of}

-- a digit is below 128
digit_below : (digits : List ℕ) (index : ℕ) → all_ascii_digits digits ≡ true → get_or digits index 0 < 128
digit_below [] index all = omega arith
digit_below (first ∷ rest) zero all = let parts = tells_all_ascii_digits.parts first rest all in omega (arith, parts.0)
digit_below (first ∷ rest) (suc index) all = digit_below rest index (tells_all_ascii_digits.parts first rest all).1

-- bytes that aren't UTF-8 spell no number
pub number_of-not_utf8 : (digits : List ℕ) → is_utf8 digits ≡ false → number_of digits ≡ None
number_of-not_utf8 digits unread =
    let no : all_ascii_digits digits ≡ false =
    false_from_ne_true (all_ascii_digits digits)
    (λ all.
    let read : is_utf8 digits ≡ true =
    is_utf8-from_IsUtf8 digits (IsUtf8-from_ascii digits (λ index. digit_below digits index all)) in
    cc) in
    grind (arith, nat_tests)
