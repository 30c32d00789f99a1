-- The parts of a line: visible characters alone, so that no space, no line feed and no byte above ASCII
-- is in one.
use Rattle.std.proofs.Common.{◌≡◌, ℕ, zero, suc, ◌/◌, ◌%◌, ◌^◌, ◌<◌, Bool, true, false, cond, ◌&&◌, List, [], ◌∷◌, ◌++◌, length, get_or, leb, not, Option, None, Some, refl, sym, ◌∙◌, subst, arith}
use Rattle.std.specs.Char.{is_ascii_digit, is_ascii_graphic}
use Rattle.std.specs.Fmt.{decimal}
use Rattle.std.specs.List.{AllByRecursion, join_with_byte, list_all}
use Rattle.std.specs.Option.{option_map}
use Rattle.std.specs.Str.{IsAscii, all_ascii_digits, is_utf8}
use Rattle.std.specs.Str.Parse.{digits_value}
use Rattle.std.proofs.lemmas.Bool.{and_from, and_parts, leb-true}
use Rattle.std.proofs.lemmas.Bool.Decides.{nat_tests}
use Rattle.std.proofs.lemmas.Fmt.{digits_decimal}
use Rattle.std.proofs.lemmas.List.Folds.{list_all-append}
use Rattle.std.proofs.lemmas.List.Splits.{join_with_byte-slice_split}
use Rattle.std.proofs.lemmas.Str.{IsUtf8-from_ascii, is_utf8-from_IsUtf8}
use Rattle.std.proofs.lemmas.Str.Ascii.{IsAscii-cons, IsAscii-nil}
use Rattle.hex.specs.Hex.{encode_lower, encode_with, lower_digits}
use Rattle.values.proofs.InsertedLemmas.{list_all-weaker}
use Rattle.catalogue.specs.Versions.{components_of, has_leading_zero, is_number, max_components, number_in, number_of, numbers_of, padded, parts_of, prepended, version_of}
use Rattle.catalogue.specs.Forms.{is_app_id, is_cohort_byte, is_cohort_name}
use Rattle.certificates.specs.Forms.{is_space}
use Rattle.certificates.specs.Reading.{is_feed}
use Rattle.certificates.proofs.NumberLemmas.{numerals}

-- visible characters alone
abbrev pub IsVisible : List ℕ → Type 0
IsVisible text = list_all is_ascii_graphic text ≡ true

-- a byte of a line: a visible character or a space
abbrev pub is_line_byte : ℕ → Bool
is_line_byte byte = leb 32 byte && leb byte 126

abbrev pub IsLine : List ℕ → Type 0
IsLine text = list_all is_line_byte text ≡ true

line_byte-graphic : (byte : ℕ) → is_ascii_graphic byte ≡ true → is_line_byte byte ≡ true
line_byte-graphic byte is = grind (arith, nat_tests)

feed-line_byte : (byte : ℕ) → is_line_byte byte ≡ true → not (is_feed byte) ≡ true
feed-line_byte byte is = grind (arith, nat_tests)

space-graphic : (byte : ℕ) → is_ascii_graphic byte ≡ true → not (is_space byte) ≡ true
space-graphic byte is = grind (arith, nat_tests)

graphic-digit : (byte : ℕ) → is_ascii_digit byte ≡ true → is_ascii_graphic byte ≡ true
graphic-digit byte is = grind (arith, nat_tests)

graphic-cohort_byte : (byte : ℕ) → is_cohort_byte byte ≡ true → is_ascii_graphic byte ≡ true
graphic-cohort_byte byte is = grind (arith, nat_tests)

pub IsLine-visible : (text : List ℕ) → IsVisible text → IsLine text
IsLine-visible text is = list_all-weaker is_ascii_graphic is_line_byte line_byte-graphic text is

pub IsLine-append : (front back : List ℕ) → IsLine front → IsLine back → IsLine (front ++ back)
IsLine-append front back is_front is_back =
    list_all-append is_line_byte front back ∙ and_from _ _ is_front is_back

-- a space and what is after it
pub IsLine-space : (text : List ℕ) → IsLine text → IsLine (32 ∷ text)
IsLine-space text is = is

pub no_feed : (text : List ℕ) → IsLine text → list_all (λ byte. not (is_feed byte)) text ≡ true
no_feed text is = list_all-weaker is_line_byte (λ byte. not (is_feed byte)) feed-line_byte text is

pub no_space : (text : List ℕ) → IsVisible text → list_all (λ byte. not (is_space byte)) text ≡ true
no_space text is = list_all-weaker is_ascii_graphic (λ byte. not (is_space byte)) space-graphic text is

ascii-line : (text : List ℕ) → IsLine text → IsAscii text
ascii-line [] is = IsAscii-nil
ascii-line (byte ∷ text) is =
    let parts = and_parts (is_line_byte byte) (list_all is_line_byte text) is in
    let high = leb-true byte 126 (and_parts (leb 32 byte) (leb byte 126) parts.0).1 in
    IsAscii-cons byte text (omega arith) (ascii-line text parts.1)

-- a line is UTF-8
pub utf8-line : (text : List ℕ) → IsLine text → is_utf8 text ≡ true
utf8-line text is = is_utf8-from_IsUtf8 text (IsUtf8-from_ascii text (ascii-line text is))

pub IsVisible-app_id : (id : List ℕ) → is_app_id id ≡ true → IsVisible id
IsVisible-app_id id is = (and_parts _ _ is).1

pub IsVisible-cohort_name : (name : List ℕ) → is_cohort_name name ≡ true → IsVisible name
IsVisible-cohort_name name is =
    list_all-weaker is_cohort_byte is_ascii_graphic graphic-cohort_byte name (and_parts _ _ is).1

pub IsVisible-decimal : (number : ℕ) → number < 2 ^ 64 → IsVisible (decimal number)
IsVisible-decimal number small =
    list_all-weaker is_ascii_digit is_ascii_graphic graphic-digit (decimal number)
    (digits_decimal numerals number small)

-- each digit of the table is visible
graphic-hex : (digit : ℕ) → digit < 16 → is_ascii_graphic (get_or lower_digits digit 0) ≡ true
graphic-hex digit small = at lower_digits digit refl small
  where
    at : (digits : List ℕ) (index : ℕ) → list_all is_ascii_graphic digits ≡ true → index < length digits →
        is_ascii_graphic (get_or digits index 0) ≡ true
    at [] index all within = absurd (omega arith)
    at (byte ∷ digits) zero all within = (and_parts _ _ all).0
    at (byte ∷ digits) (suc index) all within = at digits index (and_parts _ _ all).1 (omega arith)

pub IsVisible-hex : (bytes : List ℕ) → list_all (λ byte. leb byte 255) bytes ≡ true → IsVisible (encode_lower bytes)
unfolding encode_with
IsVisible-hex [] small = refl
IsVisible-hex (byte ∷ bytes) small =
    let parts = and_parts (leb byte 255) (list_all (λ b. leb b 255) bytes) small in
    let fits = leb-true byte 255 parts.0 in
    let high : byte / 16 < 16 = omega arith in
    let low : byte % 16 < 16 = omega arith in
    and_from _ _ (graphic-hex (byte / 16) high)
    (and_from _ _ (graphic-hex (byte % 16) low) (IsVisible-hex bytes parts.1))

-- the parts of a version between its dots are digits
graphic-digits : (part : List ℕ) → all_ascii_digits part ≡ true → IsVisible part
graphic-digits [] is = refl
graphic-digits (byte ∷ part) is =
    let parts = and_parts (is_ascii_digit byte) (all_ascii_digits part) is in
    and_from _ _ (graphic-digit byte parts.0) (graphic-digits part parts.1)

-- a part that spells a number is digits
graphic-part :
    (part : List ℕ) (number : ℕ) →
    cond {A = Option ℕ} (has_leading_zero part) None (number_of part) ≡ Some number → IsVisible part
graphic-part part number read = by_zero (has_leading_zero part) read
  where
    by_form : (form : Bool) → is_number part ≡ form →
        cond {A = Option ℕ} form (Some (digits_value 10 part)) None ≡ Some number → IsVisible part
    by_form false is read = cc
    by_form true is read = graphic-digits part (and_parts _ _ (and_parts _ _ is).0).1

    by_zero : (zero : Bool) → cond {A = Option ℕ} zero None (number_of part) ≡ Some number → IsVisible part
    by_zero true read = cc
    by_zero false read = by_form (is_number part) refl read

join-visible : (parts : List (List ℕ)) → AllByRecursion IsVisible parts → IsVisible (join_with_byte 46 parts)
join-visible [] all = refl
join-visible (part ∷ []) all = all.0
join-visible (part ∷ next ∷ parts) all =
    list_all-append is_ascii_graphic part (46 ∷ join_with_byte 46 (next ∷ parts))
    ∙ and_from _ _ all.0 (join-visible (next ∷ parts) all.1)

-- the parts of a string whose numbers are read, by how one number and several are read
module _ (number : List ℕ → Option ℕ) (numbers : List (List ℕ) → Option (List ℕ)) where
  parts-visible :
      ((part : List ℕ) (parts : List (List ℕ)) → numbers (part ∷ parts) ≡ prepended (number part) (numbers parts)) →
      ((part : List ℕ) (found : ℕ) → number part ≡ Some found → IsVisible part) →
      (parts : List (List ℕ)) (found : List ℕ) → numbers parts ≡ Some found → AllByRecursion IsVisible parts
  parts-visible more one [] found read = tt
  parts-visible more one (part ∷ parts) found read =
      by_both (number part) refl (numbers parts) refl (λ others is. parts-visible more one parts others is)
      (sym (more part parts) ∙ read)
    where
      by_both :
          (first : Option ℕ) → number part ≡ first →
          (others : Option (List ℕ)) → numbers parts ≡ others →
          ((rest : List ℕ) → numbers parts ≡ Some rest → AllByRecursion IsVisible parts) →
          prepended first others ≡ Some found → AllByRecursion IsVisible (part ∷ parts)
      by_both None is others are later read = cc
      by_both (Some first) is None are later read = cc
      by_both (Some first) is (Some rest) are later read = (one part first is, later rest are)

  text-visible :
      (text : List ℕ) (read : List ℕ × ℕ) (few : Bool) →
      cond {A = Option (List ℕ × ℕ)} few (option_map (λ ns. (padded ns, length ns)) (numbers (parts_of text))) None ≡
      Some read →
      ((part : List ℕ) (parts : List (List ℕ)) → numbers (part ∷ parts) ≡ prepended (number part) (numbers parts)) →
      ((part : List ℕ) (found : ℕ) → number part ≡ Some found → IsVisible part) →
      IsVisible text
  text-visible text read false is more one = cc
  text-visible text read true is more one = by_numbers (numbers (parts_of text)) refl is
    where
      by_numbers :
          (found : Option (List ℕ)) → numbers (parts_of text) ≡ found →
          option_map {U = List ℕ × ℕ} (λ ns. (padded ns, length ns)) found ≡ Some read → IsVisible text
      by_numbers None are is = cc
      by_numbers (Some found) are is =
          subst IsVisible (join_with_byte-slice_split 46 text)
          (join-visible (parts_of text) (parts-visible more one (parts_of text) found are))

components-visible :
    (form : _) (text : List ℕ) (read : List ℕ × ℕ) →
    components_of form text ≡ Some read →
    ((part : List ℕ) (found : ℕ) → number_in form part ≡ Some found → IsVisible part) →
    IsVisible text
unfolding components_of
components-visible form text read is one =
    text-visible (number_in form) (numbers_of form) text read (leb (length (parts_of text)) (max_components form)) is
    (λ part parts. refl) one

pub IsVisible-version : (text : List ℕ) (read : List ℕ × ℕ) → version_of text ≡ Some read → IsVisible text
unfolding version_of
IsVisible-version text read is = components-visible _ text read is
    (λ part found spelled. graphic-part part found spelled)
