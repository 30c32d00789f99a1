-- The strings of a valid content are UTF-8: all of them are ASCII.
use Rattle.std.proofs.Common.{◌≡◌, ℕ, suc, ◌<◌, ◌==◌, ◌&&◌, Bool, true, false, cond, List, [], ◌∷◌, ◌++◌, length, Option, None, Some, refl, sym, ap, ap₂, ◌∙◌, IsUtf8, IsAscii, codes, decimal, arith, is_some, nat_lt, nat_le, ◌^◌}
use Rattle.std.specs.List.{AllByRecursion, list_all, onto_first}
use Rattle.std.specs.Option.{option_map, option_map_or}
use Rattle.std.specs.Char.{is_ascii_digit}
use Rattle.std.specs.Str.{all_ascii_digits, bytes_eq}
use Rattle.std.specs.Str.Parse.{digits_value}
use Rattle.std.proofs.lemmas.Bool.{and_parts}
use Rattle.std.proofs.lemmas.Fmt.{IsAscii-decimal}
use Rattle.std.proofs.lemmas.Str.{IsUtf8-append, IsUtf8-from_ascii}
use Rattle.std.proofs.lemmas.Str.Ascii.{IsAscii-cons, IsAscii-nil}
use Rattle.hex.specs.Hex.{encode_lower, lower_digits}
use Rattle.hex.proofs.HexLemmas.{IsAscii-encode_with}
use Rattle.catalogue.specs.Forms.{has_length, is_cohort_byte, is_cohort_name, is_hash_digit, is_package_byte, is_package_name}
use Rattle.catalogue.specs.Mirrors.{is_codebase, is_codebase_byte}
use Rattle.catalogue.specs.Validity.{spells}
use Rattle.catalogue.specs.Versions.{components_of, has_leading_zero, is_number, max_components, number_in, number_of, numbers_of, padded, parts_of, prepended, version_of}

no_longer : false ≡ true → ⊥
no_longer same = cc

-- all bytes pass a test that only ASCII passes
IsAscii-tested :
    (test : ℕ → Bool) → ((byte : ℕ) → test byte ≡ true → byte < 128) →
    (text : List ℕ) → list_all test text ≡ true → IsAscii text
IsAscii-tested test low [] all = IsAscii-nil
IsAscii-tested test low (byte ∷ text) all =
    let parts = and_parts (test byte) (list_all test text) all in
    IsAscii-cons byte text (low byte parts.0) (IsAscii-tested test low text parts.1)

cohort_byte-low : (byte : ℕ) → is_cohort_byte byte ≡ true → byte < 128
cohort_byte-low byte is = grind (arith, is)

package_byte-low : (byte : ℕ) → is_package_byte byte ≡ true → byte < 128
package_byte-low byte is = grind (arith, is)

codebase_byte-low : (byte : ℕ) → is_codebase_byte byte ≡ true → byte < 128
codebase_byte-low byte is = grind (arith, is)

digit-low : (byte : ℕ) → is_ascii_digit byte ≡ true → byte < 128
digit-low byte is = grind (arith, is)

dot-low : (byte : ℕ) → (byte == 46) ≡ true → byte < 128
dot-low byte is = grind (arith, is)

pub IsUtf8-cohort_name : (name : List ℕ) → is_cohort_name name ≡ true → IsUtf8 name
IsUtf8-cohort_name name is =
    IsUtf8-from_ascii name
    (IsAscii-tested is_cohort_byte cohort_byte-low name (and_parts (has_length 1 32 name) (list_all is_cohort_byte name) is).1)

pub IsUtf8-package_name : (name : List ℕ) → is_package_name name ≡ true → IsUtf8 name
IsUtf8-package_name name is =
    let front = (and_parts (has_length 1 128 name && list_all is_package_byte name) _ is).0 in
    IsUtf8-from_ascii name
    (IsAscii-tested is_package_byte package_byte-low name (and_parts (has_length 1 128 name) (list_all is_package_byte name) front).1)

pub IsUtf8-codebase : (text : List ℕ) → is_codebase text ≡ true → IsUtf8 text
IsUtf8-codebase text is =
    let front = (and_parts _ _ (and_parts _ _ is).0).0 in
    IsUtf8-from_ascii text
    (IsAscii-tested is_codebase_byte codebase_byte-low text (and_parts (has_length 9 256 text) (list_all is_codebase_byte text) front).1)

-- a cohort's name, a colon and a bucket
pub IsUtf8-cohort_text : (name : List ℕ) (bucket : ℕ) → IsUtf8 name → bucket < 1000 → IsUtf8 (name ++ 58 ∷ decimal bucket)
IsUtf8-cohort_text name bucket named small =
    let ascii : IsAscii (58 ∷ decimal bucket) = IsAscii-cons 58 (decimal bucket) (omega arith) (IsAscii-decimal bucket (omega (arith, small))) in
    IsUtf8-append name (58 ∷ decimal bucket) named (IsUtf8-from_ascii (58 ∷ decimal bucket) ascii)

-- a lower-case hexadecimal digit
hash_digit-low : (byte : ℕ) → is_hash_digit byte ≡ true → byte < 128
hash_digit-low byte is = grind (arith, is)

-- the digits of a hash after `1.`
pub IsUtf8-fingerprint : (hash : List ℕ) → IsUtf8 (codes "1." ++ encode_lower hash)
IsUtf8-fingerprint hash =
    let digits : IsAscii lower_digits = IsAscii-tested is_hash_digit hash_digit-low lower_digits refl in
    let rest : IsAscii (encode_lower hash) = IsAscii-encode_with lower_digits hash digits in
    IsUtf8-from_ascii (49 ∷ 46 ∷ encode_lower hash)
    (IsAscii-cons 49 (46 ∷ encode_lower hash) (omega arith) (IsAscii-cons 46 (encode_lower hash) (omega arith) rest))

-- digits are ASCII
IsAscii-digits : (part : List ℕ) → all_ascii_digits part ≡ true → IsAscii part
IsAscii-digits [] all = IsAscii-nil
IsAscii-digits (byte ∷ part) all =
    let parts = and_parts (is_ascii_digit byte) (all_ascii_digits part) all in
    IsAscii-cons byte part (digit-low byte parts.0) (IsAscii-digits part parts.1)

-- a part that spells a number is ASCII
number-ascii : (part : List ℕ) (leading numeral : Bool) → is_number part ≡ numeral →
    is_some (cond leading None (cond numeral (Some (digits_value 10 part)) None)) ≡ true → IsAscii part
number-ascii part true numeral same some = absurd (no_longer some)
number-ascii part false false same some = absurd (no_longer some)
number-ascii part false true same some =
    IsAscii-digits part
    (and_parts (nat_lt 0 (length part)) (all_ascii_digits part)
    (and_parts (nat_lt 0 (length part) && all_ascii_digits part) (nat_lt (digits_value 10 part) (2 ^ 32)) same).0).1

both-some : (one : Option ℕ) (rest : Option (List ℕ)) → is_some (prepended one rest) ≡ true → (is_some one ≡ true) × (is_some rest ≡ true)
both-some None rest some = absurd (no_longer some)
both-some (Some number) None some = absurd (no_longer some)
both-some (Some number) (Some numbers) some = (refl, refl)

-- the number of a part, and the numbers of parts, without leading zeros
abbrev plain_number : List ℕ → Option ℕ
plain_number part = cond (has_leading_zero part) None (number_of part)

abbrev plain_numbers : List (List ℕ) → Option (List ℕ)
plain_numbers [] = Some []
plain_numbers (part ∷ parts) = prepended (plain_number part) (plain_numbers parts)

numbers-plain :
    (form : _) → ((part : List ℕ) → number_in form part ≡ plain_number part) →
    (parts : List (List ℕ)) → numbers_of form parts ≡ plain_numbers parts
numbers-plain form same [] = refl
numbers-plain form same (part ∷ parts) = ap₂ prepended (same part) (numbers-plain form same parts)

numbers-ascii : (parts : List (List ℕ)) → is_some (plain_numbers parts) ≡ true → AllByRecursion IsAscii parts
numbers-ascii [] some = tt
numbers-ascii (part ∷ parts) some =
    let both = both-some (plain_number part) (plain_numbers parts) some in
    (number-ascii part (has_leading_zero part) (is_number part) refl both.0, numbers-ascii parts both.1)

-- a string is ASCII if the parts between its dots are
split-ascii : (byte : ℕ) (text : List ℕ) (parts : List (List ℕ)) (dot : Bool) → (byte == 46) ≡ dot →
    (AllByRecursion IsAscii parts → IsAscii text) →
    AllByRecursion IsAscii (cond dot ([] ∷ parts) (onto_first byte parts)) → IsAscii (byte ∷ text)
split-ascii byte text parts true is rest all = IsAscii-cons byte text (dot-low byte is) (rest all.1)
split-ascii byte text [] false is rest all = IsAscii-cons byte text (all.0 0) (rest tt)
split-ascii byte text (part ∷ parts) false is rest all =
    IsAscii-cons byte text (all.0 0) (rest ((λ i. all.0 (suc i)), all.1))

parts-ascii : (text : List ℕ) → AllByRecursion IsAscii (parts_of text) → IsAscii text
parts-ascii [] all = IsAscii-nil
parts-ascii (byte ∷ text) all = split-ascii byte text (parts_of text) (byte == 46) refl (parts-ascii text) all

some-numbers : (few : Bool) (numbers : Option (List ℕ)) →
    is_some {T = List ℕ × ℕ} (cond few (option_map (λ (found : List ℕ). (padded found, length found)) numbers) None) ≡ true → is_some numbers ≡ true
some-numbers false numbers some = absurd (no_longer some)
some-numbers true None some = absurd (no_longer some)
some-numbers true (Some numbers) some = refl

components-numbers :
    (form : _) (text : List ℕ) → is_some (components_of form text) ≡ true →
    ((part : List ℕ) → number_in form part ≡ plain_number part) → is_some (plain_numbers (parts_of text)) ≡ true
unfolding components_of
components-numbers form text some same =
    sym (ap (λ (numbers : Option (List ℕ)). is_some numbers) (numbers-plain form same (parts_of text)))
    ∙ some-numbers (nat_le (length (parts_of text)) (max_components form)) (numbers_of form (parts_of text)) some

spelled-numbers : (text : List ℕ) → is_some (version_of text) ≡ true → is_some (plain_numbers (parts_of text)) ≡ true
unfolding version_of
spelled-numbers text some = components-numbers _ text some (λ part. refl)

some-version : (version : List ℕ) (found : Option (List ℕ × ℕ)) →
    option_map_or (λ read. bytes_eq read.0 version) found false ≡ true → is_some found ≡ true
some-version version None spelled = absurd (no_longer spelled)
some-version version (Some found) spelled = refl

pub IsUtf8-version : (text version : List ℕ) → spells text version ≡ true → IsUtf8 text
IsUtf8-version text version spelled =
    IsUtf8-from_ascii text
    (parts-ascii text (numbers-ascii (parts_of text) (spelled-numbers text (some-version version (version_of text) spelled))))
