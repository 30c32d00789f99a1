-- What digits spell as a bucket, and the bucket of a session.
use Rattle.std.proofs.Common.{◌≡◌, ℕ, zero, suc, ◌+◌, ◌*◌, ◌^◌, ◌<◌, ◌≤◌, true, false, List, [], ◌∷◌, length, get_or, take, Option, None, Some, Result, refl, ap, ◌∙◌, arith}
use Rattle.std.specs.Char.{is_ascii_digit}
use Rattle.std.specs.Fmt.{decimal}
use Rattle.std.specs.Int.{w32, from_be_bytes}
use Rattle.std.specs.List.{list_all}
use Rattle.std.specs.Result.{result_ok}
use Rattle.std.specs.Str.Parse.{digits_value, ParsesUnsigned}
use Rattle.std.proofs.lemmas.Bool.{and_from, and_parts, le-leb, leb-true, not-true, not_from_false}
use Rattle.std.proofs.lemmas.Bool.Decides.{nat_tests}
use Rattle.std.proofs.lemmas.Fmt.{decimal-digits_value, decimal_digit, decimal_nonempty, digits_decimal, digits_value-decimal, first_decimal, length-decimal-le}
use Rattle.std.proofs.lemmas.List.{get_or-take}
use Rattle.std.proofs.lemmas.Str.Parse.{IsNumeralModel, digits_value_short, numerals_by_value, parse_gives, tells_all_ascii_digits}
use Rattle.cohorts.specs.CohortTexts.{bucket_of, has_leading_zero, is_bucket}
use Rattle.cohorts.specs.Tracks.{IsBucketOf, session_bucket}

-- the strings of ASCII digits are those of decimal digits
numerals : IsNumeralModel (λ digits. list_all is_ascii_digit digits ≡ true) (digits_value 10)
numerals = numerals_by_value _ tells_all_ascii_digits

-- what is true of a bucket's digits
pub record IsBucket (digits : List ℕ) : Type 0 where
  pub are_digits : list_all is_ascii_digit digits ≡ true
  pub some : 0 < length digits
  pub few : length digits ≤ 3
  pub plain : has_leading_zero digits ≡ false

IsBucket-is_bucket : (digits : List ℕ) → is_bucket digits ≡ true → IsBucket digits
IsBucket-is_bucket digits is =
    let outer = and_parts _ _ is in
    let inner = and_parts _ _ outer.0 in
    let lengths = and_parts _ _ inner.0 in
    record {
      are_digits = inner.1;
      some = leb-true _ _ lengths.0;
      few = leb-true _ _ lengths.1;
      plain = not-true _ outer.1;
    }

-- a bucket has a digit
pub bucket_nonempty : (digits : List ℕ) → is_bucket digits ≡ true → 0 < length digits
bucket_nonempty digits is = (IsBucket-is_bucket digits is).some

-- std's `parse` gives what a bucket's digits spell
pub bucket_of-parse : {E : Type 0} (digits : List ℕ) (parsed : Result ℕ E) → ParsesUnsigned 16 10 digits parsed → is_bucket digits ≡ true → result_ok parsed ≡ bucket_of digits
bucket_of-parse digits parsed parses is =
    let bucket = IsBucket-is_bucket digits is in
    let short : digits_value 10 digits < 10 ^ 3 = digits_value_short numerals digits 3 bucket.are_digits bucket.few in
    ap result_ok (parse_gives numerals 16 digits parsed parses bucket.are_digits bucket.some (omega (arith, short)))
    ∙ rw is refl

-- the digits of a bucket spell it, and it is at most 999
pub decimal-bucket : (digits : List ℕ) → is_bucket digits ≡ true → (digits_value 10 digits < 1000) × (decimal (digits_value 10 digits) ≡ digits)
decimal-bucket digits is =
    let bucket = IsBucket-is_bucket digits is in
    let short : digits_value 10 digits < 10 ^ 3 = digits_value_short numerals digits 3 bucket.are_digits bucket.few in (
      omega (arith, short),
      decimal-digits_value numerals digits bucket.are_digits bucket.some (λ zero. grind (arith, nat_tests, bucket.plain, bucket.some)) (omega (arith, short)),
    )

-- a bucket's print has no zero in front, unless it is `0`
plain-decimal : (bucket : ℕ) → bucket < 1000 → has_leading_zero (decimal bucket) ≡ false
plain-decimal zero small =
    let zero_digit : decimal 0 ≡ 48 ∷ [] = decimal_digit 0 (omega arith) in
    rw zero_digit refl
plain-decimal (suc bucket) small =
    let first : 48 < get_or (decimal (suc bucket)) 0 0 = first_decimal (suc bucket) (omega arith) (omega arith) in
    grind (arith, nat_tests)

-- a bucket is read from its print
pub bucket_of-decimal : (bucket : ℕ) → bucket < 1000 → bucket_of (decimal bucket) ≡ Some bucket
bucket_of-decimal bucket small =
    let few : length (decimal bucket) ≤ 3 = length-decimal-le 3 bucket (omega arith) (omega arith) (omega arith) in
    let some : 0 < length (decimal bucket) = decimal_nonempty bucket (omega arith) in
    let digits = digits_decimal numerals bucket (omega arith) in
    let plain = not_from_false _ (plain-decimal bucket small) in
    let is : is_bucket (decimal bucket) ≡ true = and_from _ _ (and_from _ _ (and_from _ _ (le-leb _ _ (omega arith)) (le-leb _ _ few)) digits) plain in
    rw is (ap Some (digits_value-decimal numerals bucket (omega arith)))

-- the number of four bytes, the highest first
pub from_be_bytes-take : (bytes : List ℕ) → get_or bytes 0 0 * 16777216 + get_or bytes 1 0 * 65536 + get_or bytes 2 0 * 256 + get_or bytes 3 0 ≡ from_be_bytes w32 (take 4 bytes)
from_be_bytes-take bytes =
    rw (
      get_or-take 4 bytes 0 0 (omega arith),
      get_or-take 4 bytes 1 0 (omega arith),
      get_or-take 4 bytes 2 0 (omega arith),
      get_or-take 4 bytes 3 0 (omega arith),
    ) refl

-- a session's bucket is at most 999
pub session_bucket-small : (session : List ℕ) → session_bucket session < 1000
unfolding session_bucket
session_bucket-small session = omega arith

-- a bucket that is known of a session is at most 999
pub known_bucket-small : (session : List ℕ) (known : Option ℕ) (bucket : ℕ)
    → IsBucketOf session known → known ≡ Some bucket → bucket < 1000
known_bucket-small session None bucket of_session known = cc
known_bucket-small session (Some hashed) bucket of_session known =
    let same : hashed ≡ bucket = cc in
    omega (arith, same, of_session, session_bucket-small session)
