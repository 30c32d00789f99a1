-- A version's string reads back as the version.
use Rattle.std.proofs.Common.{◌≡◌, ◌≢◌, ℕ, ◌+◌, ◌-◌, ◌^◌, ◌<◌, ◌≤◌, Bool, true, false, cond, eqb, List, [], ◌∷◌, ◌++◌, length, get_or, take, drop, map, max, reverse, Some, suc, zero, unwrap_or, refl, sym, ap, ◌∙◌, arith, length-append}
use Rattle.std.proofs.Math.ListN.{replicate}
use Rattle.std.specs.Fmt.{decimal}
use Rattle.std.specs.List.{All, join_with_byte, prefix_len}
use Rattle.std.specs.Option.{option_map}
use Rattle.std.specs.Str.{all_ascii_digits}
use Rattle.std.specs.Str.Parse.{digits_value}
use Rattle.std.proofs.lemmas.Bool.Decides.{nat_tests}
use Rattle.std.proofs.lemmas.Fmt.{decimal_digit, decimal_nonempty, digits_decimal, digits_value-decimal, first_decimal}
use Rattle.std.proofs.lemmas.List.{get_or-replicate, get_or_default, get_or-reverse, take-replicate, length-map, length-replicate, length-reverse, length-take, length-take-le, replicate-append-replicate, reverse-append, reverse-reverse, same_lists}
use Rattle.std.proofs.lemmas.List.Elements.{All-append, All-replicate, All-take}
use Rattle.std.proofs.lemmas.List.Folds.{prefix_len-append, prefix_len-replicate}
use Rattle.std.proofs.lemmas.List.Sums.{prefix_len-le-length}
use Rattle.std.proofs.lemmas.List.Splits.{slice_split_at, slice_split_none}
use Rattle.std.proofs.lemmas.Str.Parse.{IsNumeralModel, not_in_digits, numerals_by_value, tells_all_ascii_digits}
use Rattle.catalogue.specs.declared.spelling.Form.{Form}
use Rattle.catalogue.specs.declared.spelling.Form.TheVariants.{Lenient, Plain}
use Rattle.catalogue.specs.Versions.{components_of, has_leading_zero, lenient_version_of, max_components, number_in, number_of, numbers_of, padded, parts_of, printed, shown_components, version_of, zeros_at_end}
use Rattle.catalogue.proofs.SpellingLemmas.{components_of_some, version_of-numbers}

-- the strings of ASCII digits are those of decimal digits
numerals : IsNumeralModel (λ digits. all_ascii_digits digits ≡ true) (digits_value 10)
numerals = numerals_by_value _ tells_all_ascii_digits

-- a number's string has no dot
decimal-no_dot : (number : ℕ) → number < 2 ^ 64 → All (λ byte. eqb byte 46 ≡ false) (decimal number)
decimal-no_dot number small = λ place past within.
    let same : get_or (decimal number) place past ≡ get_or (decimal number) place 0 = get_or_default (decimal number) place past 0 within in
    let other : get_or (decimal number) place 0 ≢ 46 = not_in_digits numerals (decimal number) 46 (digits_decimal numerals number small) (λ digit. omega arith) place within in
    grind (arith, nat_tests)

-- numbers that dots join are the parts between the dots
parts_of-join_with_byte :
    (numbers : List ℕ) →
    1 ≤ length numbers →
    All (λ number. number < 2 ^ 32) numbers →
    parts_of (join_with_byte 46 (map decimal numbers)) ≡ map decimal numbers
parts_of-join_with_byte [] some small = absurd (omega arith)
parts_of-join_with_byte (first ∷ []) some small =
    let dots : ℕ → Bool = λ byte. eqb byte 46 in
    slice_split_none dots (decimal first) (decimal-no_dot first (omega (arith, small 0 0 (omega arith))))
parts_of-join_with_byte (first ∷ (second ∷ others)) some small =
    let dots : ℕ → Bool = λ byte. eqb byte 46 in
    let rest : All (λ number. number < 2 ^ 32) (second ∷ others) = λ place past within. small (suc place) past (omega arith) in
    slice_split_at dots (decimal first) 46 (join_with_byte 46 (map decimal (second ∷ others))) (decimal-no_dot first (omega (arith, small 0 0 (omega arith)))) refl
    ∙ ap (λ parts. decimal first ∷ parts) (parts_of-join_with_byte (second ∷ others) (omega arith) rest)

-- a number's string has no zero before further digits
decimal-no_leading_zero : (number : ℕ) → number < 2 ^ 32 → has_leading_zero (decimal number) ≡ false
decimal-no_leading_zero zero small = rw (decimal_digit 0 (omega arith)) refl
decimal-no_leading_zero (suc less) small =
    let first : 48 < get_or (decimal (suc less)) 0 0 = first_decimal (suc less) (omega arith) (omega arith) in
    grind (arith, nat_tests)

-- a number's string spells the number
number_of-decimal :
    (number : ℕ) →
    number < 2 ^ 32 →
    number_of (decimal number) ≡ Some number
number_of-decimal number small =
    let some : 0 < length (decimal number) = decimal_nonempty number (omega arith) in
    let digits : all_ascii_digits (decimal number) ≡ true = digits_decimal numerals number (omega arith) in
    let value : digits_value 10 (decimal number) ≡ number = digits_value-decimal numerals number (omega arith) in
    rw (digits, value) (grind (arith, nat_tests))

-- and so in each form
number_in-decimal :
    (form : Form) (number : ℕ) →
    number < 2 ^ 32 →
    number_in form (decimal number) ≡ Some number
number_in-decimal Plain number small =
    rw (decimal-no_leading_zero number small) (number_of-decimal number small)
number_in-decimal Lenient number small = number_of-decimal number small

-- numbers' strings spell the numbers
numbers_of-decimals :
    (form : Form) (numbers : List ℕ) →
    All (λ number. number < 2 ^ 32) numbers →
    numbers_of form (map decimal numbers) ≡ Some numbers
numbers_of-decimals form [] small = refl
numbers_of-decimals form (first ∷ others) small =
    rw (number_in-decimal form first (small 0 0 (omega arith)), numbers_of-decimals form others (λ place past within. small (suc place) past (omega arith))) refl

-- how many zeros a list begins with
abbrev leading_zeros : List ℕ → ℕ
leading_zeros numbers = prefix_len (λ number. eqb number 0) numbers

-- a list is the zeros that it begins with, and the rest: one more number in front
leading_zeros-first :
    (first : ℕ) (others : List ℕ) (is_zero : Bool) →
    eqb first 0 ≡ is_zero →
    others ≡ replicate (leading_zeros others) 0 ++ drop (leading_zeros others) others →
    first ∷ others ≡ replicate (cond is_zero (1 + leading_zeros others) 0) 0 ++ drop (cond is_zero (1 + leading_zeros others) 0) (first ∷ others)
leading_zeros-first first others true tested split =
    let none : first ≡ 0 = grind (arith, nat_tests) in
    let zeros : ℕ = leading_zeros others in
    let above : 1 + zeros ≡ suc zeros = omega arith in
    ap (λ number. number ∷ others) none
    ∙ ap (λ rest. 0 ∷ rest) split
    ∙ ap (λ count. replicate count 0 ++ drop count (first ∷ others)) (sym above)
leading_zeros-first first others false tested split = refl

-- a list is the zeros that it begins with, and the rest
leading_zeros-split :
    (numbers : List ℕ) →
    numbers ≡ replicate (leading_zeros numbers) 0 ++ drop (leading_zeros numbers) numbers
leading_zeros-split [] = refl
leading_zeros-split (first ∷ others) =
    leading_zeros-first first others (eqb first 0) refl (leading_zeros-split others)

-- zeros turned round are the same zeros
reverse-zeros : (count : ℕ) → reverse {A = ℕ} (replicate count 0) ≡ replicate count 0
reverse-zeros count =
    let zeros : List ℕ = replicate count 0 in
    let long : length zeros ≡ count = length-replicate count 0 in
    same_lists (reverse zeros) zeros (length-reverse zeros) (λ place past within.
    let inside : place < count = omega (arith, within, length-reverse zeros) in
    get_or-reverse zeros place past (omega arith)
    ∙ get_or-replicate count (length zeros - 1 - place) 0 past (omega arith)
    ∙ sym (get_or-replicate count place 0 past inside))

-- a list that was cut within the zeros at its end is filled with zeros again
refilled :
    (numbers : List ℕ) (kept zeros : ℕ) →
    length numbers ≤ kept →
    kept ≤ length numbers + zeros →
    take kept (numbers ++ replicate zeros 0) ++ replicate (length numbers + zeros - kept) 0 ≡ numbers ++ replicate zeros 0
refilled [] kept zeros all some =
    ap (λ front. front ++ replicate (0 + zeros - kept) 0) (take-replicate kept zeros 0 (omega arith))
    ∙ replicate-append-replicate kept (0 + zeros - kept) 0
    ∙ ap (λ count. replicate count 0) (omega arith)
refilled (first ∷ others) kept zeros all some =
    let left : ℕ = kept - 1 in
    let above : kept ≡ suc left = omega arith in
    let filled : length (first ∷ others) + zeros - kept ≡ length others + zeros - left = omega arith in
    ap (λ count. take count ((first ∷ others) ++ replicate zeros 0) ++ replicate (length (first ∷ others) + zeros - kept) 0) above
    ∙ ap (λ count. first ∷ (take left (others ++ replicate zeros 0) ++ replicate count 0)) filled
    ∙ ap (λ rest. first ∷ rest) (refilled others left zeros (omega arith) (omega arith))

-- a version is what it shows, and zeros
padded-shown_components :
    (version : List ℕ) →
    length version ≡ 16 →
    padded (shown_components version) ≡ version
padded-shown_components version sixteen =
    let zeros : ℕ = leading_zeros (reverse version) in
    let ending : zeros_at_end version ≡ zeros = length-take-le zeros (reverse version) (prefix_len-le-length (λ number. eqb number 0) (reverse version)) in
    let kept : ℕ = max (length version - zeros_at_end version) 2 in
    let front : List ℕ = reverse (drop zeros (reverse version)) in
    let split : reverse version ≡ replicate zeros 0 ++ drop zeros (reverse version) = leading_zeros-split (reverse version) in
    let whole : version ≡ front ++ replicate zeros 0 = sym (reverse-reverse version) ∙ ap reverse split ∙ reverse-append (replicate zeros 0) (drop zeros (reverse version)) ∙ ap (λ last. front ++ last) (reverse-zeros zeros) in
    let parted : length front + zeros ≡ 16 = omega (arith, ap length whole, length-append front (replicate zeros 0), length-replicate {A = ℕ} zeros 0) in
    let cut : length (take kept version) ≡ kept = length-take-le kept version (omega arith) in
    let left : 16 - length (take kept version) ≡ length front + zeros - kept = omega arith in
    ap (λ count. take kept version ++ replicate count 0) left
    ∙ ap (λ numbers. take kept numbers ++ replicate (length front + zeros - kept) 0) whole
    ∙ refilled front kept zeros (omega arith) (omega arith)
    ∙ sym whole

-- the parts of a version's string are the strings of its numbers
parts_of-printed :
    (version : List ℕ) →
    1 ≤ length (shown_components version) →
    All (λ number. number < 2 ^ 32) (shown_components version) →
    parts_of (printed version) ≡ map decimal (shown_components version)
unfolding printed
parts_of-printed version some small = parts_of-join_with_byte (shown_components version) some small

-- a version's string spells the version in a form that allows as many components as are shown
components_of-printed :
    (form : Form) (version : List ℕ) →
    length version ≡ 16 →
    All (λ number. number < 2 ^ 32) version →
    length (shown_components version) ≤ max_components form →
    components_of form (printed version) ≡ Some (version, length (shown_components version))
components_of-printed form version sixteen small few =
    let shown : List ℕ = shown_components version in
    let kept : ℕ = max (length version - zeros_at_end version) 2 in
    let cut : length shown ≡ kept = length-take-le kept version (omega arith) in
    let small_shown = All-take (λ number. number < 2 ^ 32) kept version small in
    let parts : parts_of (printed version) ≡ map decimal shown = parts_of-printed version (omega arith) small_shown in
    let few_parts : length (parts_of (printed version)) ≤ max_components form = omega (arith, ap length parts, length-map shown decimal) in
    components_of_some form (printed version) shown few_parts (ap (numbers_of form) parts ∙ numbers_of-decimals form shown small_shown)
    ∙ ap (λ numbers. Some (numbers, length shown)) (padded-shown_components version sixteen)

-- a version's string counts as the version
pub lenient_version_of-printed :
    (version : List ℕ) →
    length version ≡ 16 →
    All (λ number. number < 2 ^ 32) version →
    lenient_version_of (printed version) ≡ version
unfolding lenient_version_of
lenient_version_of-printed version sixteen small =
    let cut : length (shown_components version) ≤ 16 = omega (arith, length-take (max (length version - zeros_at_end version) 2) version) in
    ap (λ option. unwrap_or (option_map (λ pair. pair.0) option) (replicate 16 0)) (components_of-printed Lenient version sixteen small cut)

-- numbers that zeros fill show as many as they are, or two
length-shown_components-padded :
    (numbers : List ℕ) → length numbers ≤ 4 → length (shown_components (padded numbers)) ≤ 4
length-shown_components-padded numbers few =
    let zeros : ℕ = 16 - length numbers in
    let version : List ℕ = padded numbers in
    let is_zero : ℕ → Bool = λ number. eqb number 0 in
    let long : length version ≡ 16 = omega (arith, length-append numbers (replicate zeros 0), length-replicate {A = ℕ} zeros 0) in
    let turned : reverse version ≡ replicate zeros 0 ++ reverse numbers =
    reverse-append numbers (replicate zeros 0) ∙ ap (λ front. front ++ reverse numbers) (reverse-zeros zeros) in
    let front : leading_zeros (replicate zeros 0) ≡ zeros = prefix_len-replicate is_zero zeros 0 refl in
    let all : length (replicate {A = ℕ} zeros 0) ≡ zeros = length-replicate zeros 0 in
    let joined = prefix_len-append is_zero (replicate zeros 0) (reverse numbers) in
    let many : zeros ≤ leading_zeros (replicate zeros 0 ++ reverse numbers) = grind (arith, nat_tests) in
    let ending : zeros_at_end version ≡ leading_zeros (reverse version) = length-take-le (leading_zeros (reverse version)) (reverse version) (prefix_len-le-length is_zero (reverse version)) in
    let same = ap leading_zeros turned in
    omega (arith, length-take (max (length version - zeros_at_end version) 2) version)

-- a version that a publisher's string spells prints as such a string of the same version
pub version_of-printed :
    (text version : List ℕ) (written : ℕ) →
    version_of text ≡ Some (version, written) →
    version_of (printed version) ≡ Some (version, length (shown_components version))
unfolding version_of
version_of-printed text version written plain =
    let spelled = version_of-numbers text version written plain in
    let numbers = spelled.0 in
    let zeros : ℕ = 16 - length numbers in
    let few : length numbers ≤ 4 = spelled.1 in
    let small = All-append (λ number. number < 2 ^ 32) numbers (replicate zeros 0) spelled.2 (All-replicate (λ number. number < 2 ^ 32) zeros 0 (omega arith)) in
    let long : length (padded numbers) ≡ 16 = omega (arith, length-append numbers (replicate zeros 0), length-replicate {A = ℕ} zeros 0) in
    rw (← spelled.3) (components_of-printed Plain (padded numbers) long small (length-shown_components-padded numbers few))
