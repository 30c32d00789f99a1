-- What the digits of a number spell.
use Rattle.std.proofs.Common.{◌≡◌, ℕ, ◌^◌, ◌<◌, ◌≤◌, true, false, List, length, Some, Result, ap, arith}
use Rattle.std.specs.Char.{is_ascii_digit}
use Rattle.std.specs.List.{list_all}
use Rattle.std.specs.Result.{result_ok}
use Rattle.std.specs.Str.Parse.{digits_value, ParsesUnsigned}
use Rattle.std.proofs.lemmas.Bool.{and_parts, leb-true, not-true}
use Rattle.std.proofs.lemmas.Str.Parse.{IsNumeralModel, digits_value_short, numerals_by_value, parse_gives, tells_all_ascii_digits}
use Rattle.certificates.specs.Forms.{has_leading_zero, is_plain}

-- the strings of ASCII digits are those of decimal digits
pub numerals : IsNumeralModel (λ digits. list_all is_ascii_digit digits ≡ true) (digits_value 10)
numerals = numerals_by_value _ tells_all_ascii_digits

-- what is true of a number's digits
pub record IsPlain (digits : List ℕ) : Type 0 where
  pub are_digits : list_all is_ascii_digit digits ≡ true
  pub some : 0 < length digits
  pub few : length digits ≤ 16
  pub plain : has_leading_zero digits ≡ false

pub IsPlain-is_plain : (digits : List ℕ) → is_plain digits ≡ true → IsPlain digits
IsPlain-is_plain digits is =
    let outer = and_parts _ _ is in
    let inner = and_parts _ _ outer.0 in
    let lengths = and_parts _ _ inner.0 in
    record {
      are_digits = inner.1;
      some = leb-true _ _ lengths.0;
      few = leb-true _ _ lengths.1;
      plain = not-true _ outer.1;
    }

-- std's `parse` gives what a number's digits spell
pub value_of-parse :
    {E : Type 0} (digits : List ℕ) (parsed : Result ℕ E) →
    ParsesUnsigned 64 10 digits parsed →
    is_plain digits ≡ true →
    result_ok parsed ≡ Some (digits_value 10 digits)
value_of-parse digits parsed parses is =
    let number = IsPlain-is_plain digits is in
    let short : digits_value 10 digits < 10 ^ 16 = digits_value_short numerals digits 16 number.are_digits number.few in
    ap result_ok (parse_gives numerals 64 digits parsed parses number.are_digits number.some (omega (arith, short)))
