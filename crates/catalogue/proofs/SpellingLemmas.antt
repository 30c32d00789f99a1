-- What the parts of a string spell, together and one by one.
use Rattle.std.proofs.Common.{◌≡◌, ℕ, ◌<◌, ◌≤◌, ◌^◌, ◌&&◌, Bool, true, false, cond, List, [], ◌∷◌, ◌++◌, length, Option, Some, None, Result, Ok, Err, refl, ap, arith, nat_le, nat_lt, unwrap_or, suc, zero, get_or}
use Rattle.std.proofs.Math.ListN.{replicate}
use Rattle.std.specs.Option.{option_map}
use Rattle.std.specs.Result.{OkIff, result_ok}
use Rattle.std.specs.Str.{all_ascii_digits}
use Rattle.std.specs.Str.Parse.{digits_value}
use Rattle.std.specs.List.{All}
use Rattle.std.proofs.lemmas.Bool.{and_parts, leb-true, ltb-true}
use Rattle.std.proofs.lemmas.Bool.Decides.{nat_tests}
use Rattle.std.proofs.lemmas.List.Elements.{All-cons, All-nil}
use Rattle.catalogue.specs.declared.spelling.Form.{Form}
use Rattle.catalogue.specs.declared.spelling.Form.TheVariants.{Plain, Lenient}
use Rattle.catalogue.specs.Versions.{components_of, has_leading_zero, is_number, lenient_version_of, max_components, number_in, number_of, numbers_of, padded, parts_of, prepended, version_of}

-- the number that std's `parse` gives for a string without a leading `+`
pub number_of-from_parse :
    {E : Type 0} (digits : List ℕ) (parsed : Result ℕ E) →
    OkIff parsed ((all_ascii_digits digits ≡ true) × (0 < length digits) × (digits_value 10 digits < 2 ^ 32)) (digits_value 10 digits) →
    result_ok parsed ≡ number_of digits
number_of-from_parse digits (Ok number) fits = grind (arith, nat_tests)
number_of-from_parse digits (Err error) fails = grind (arith, nat_tests)

-- a number before others is there if all of them are
prepended_parts :
    (first : Option ℕ) (rest : Option (List ℕ)) (numbers : List ℕ) →
    prepended first rest ≡ Some numbers →
    (number : ℕ) × (others : List ℕ) × (first ≡ Some number) × (rest ≡ Some others) × (Some (number ∷ others) ≡ Some numbers)
prepended_parts None rest numbers all = cc
prepended_parts (Some number) None numbers all = cc
prepended_parts (Some number) (Some others) numbers all = (number, others, refl, refl, all)

-- a test and a value are there if the choice is
chosen_parts :
    {A : Type 0} (test : Bool) (option : Option A) (value : A) →
    cond test option None ≡ Some value →
    (test ≡ true) × (option ≡ Some value)
chosen_parts true option value chosen = (refl, chosen)
chosen_parts false option value chosen = cc

-- what was rejected by a test, and else read, was read
unless_parts :
    (test : Bool) (option : Option ℕ) (number : ℕ) →
    cond test None option ≡ Some number →
    option ≡ Some number
unless_parts true option number chosen = cc
unless_parts false option number chosen = chosen

-- what a map gives comes from a value
option_map_parts :
    {A B : Type 0} (f : A → B) (option : Option A) (given : B) →
    option_map f option ≡ Some given →
    (value : A) × (option ≡ Some value) × (f value ≡ given)
option_map_parts f None given mapped = cc
option_map_parts f (Some value) given mapped = (value, refl, cc)

-- a number before others that are not all there
prepended_none : (first : Option ℕ) → prepended first None ≡ None
prepended_none None = refl
prepended_none (Some number) = refl

-- one more number at the end of the others
prepended-push :
    (first : Option ℕ) (rest more : Option (List ℕ)) (numbers : List ℕ) (number : ℕ) →
    prepended first rest ≡ Some numbers →
    ((others : List ℕ) → rest ≡ Some others → more ≡ Some (others ++ number ∷ [])) →
    prepended first more ≡ Some (numbers ++ number ∷ [])
prepended-push None rest more numbers number whole pushed = cc
prepended-push (Some first) None more numbers number whole pushed = cc
prepended-push (Some first) (Some others) more numbers number whole pushed =
    rw (pushed others refl) (ap (option_map (λ kept. kept ++ number ∷ [])) whole)

-- the first of a pair, or of its stand-in
first_or :
    (read : Option (List ℕ × ℕ)) (version : List ℕ) (count : ℕ) →
    (unwrap_or read (version, count)).0 ≡ unwrap_or (option_map (λ pair. pair.0) read) version
first_or None version count = refl
first_or (Some pair) version count = refl

-- one more part, at the end
pub numbers_of-push :
    (form : Form) (parts : List (List ℕ)) (part numbers : List ℕ) (number : ℕ) →
    numbers_of form parts ≡ Some numbers →
    number_in form part ≡ Some number →
    numbers_of form (parts ++ part ∷ []) ≡ Some (numbers ++ number ∷ [])
numbers_of-push form [] part numbers number spelled more =
    let none : numbers ≡ [] = cc in
    rw (more, none) refl
numbers_of-push form (first ∷ parts) part numbers number spelled more =
    prepended-push (number_in form first) (numbers_of form parts) (numbers_of form (parts ++ part ∷ [])) numbers number spelled (λ others rest. numbers_of-push form parts part others number rest more)

-- parts of which one spells no number spell none together
pub numbers_of_none :
    (form : Form) (parts : List (List ℕ)) (index : ℕ) (past : List ℕ) →
    index < length parts →
    number_in form (get_or parts index past) ≡ None →
    numbers_of form parts ≡ None
numbers_of_none form [] index past within none = absurd (omega arith)
numbers_of_none form (first ∷ parts) zero past within none = rw none refl
numbers_of_none form (first ∷ parts) (suc index) past within none =
    rw (numbers_of_none form parts index past (omega arith) none) (prepended_none (number_in form first))

-- a string of more parts than the form allows spells no version
pub components_of_many :
    (form : Form) (text : List ℕ) →
    max_components form < length (parts_of text) →
    components_of form text ≡ None
unfolding components_of
components_of_many form text many = grind (arith, nat_tests)

-- a choice of the same twice
same_choice : {A : Type 0} (test : Bool) (option : Option A) → cond test option option ≡ option
same_choice true option = refl
same_choice false option = refl

-- a string of which one part spells no number spells no version
pub components_of_none :
    (form : Form) (text : List ℕ) →
    numbers_of form (parts_of text) ≡ None →
    components_of form text ≡ None
unfolding components_of
components_of_none form text none = rw none (same_choice _ None)

-- a string of few enough parts, each of which spells a number
pub components_of_some :
    (form : Form) (text numbers : List ℕ) →
    length (parts_of text) ≤ max_components form →
    numbers_of form (parts_of text) ≡ Some numbers →
    components_of form text ≡ Some (padded numbers, length numbers)
unfolding components_of
components_of_some form text numbers few spelled = rw spelled (grind (arith, nat_tests))

-- a plain number is the same number in a client's string
number_in-lenient :
    (part : List ℕ) (number : ℕ) →
    number_in Plain part ≡ Some number →
    number_in Lenient part ≡ Some number
number_in-lenient part number plain = unless_parts (has_leading_zero part) (number_of part) number plain

-- plain numbers are the same numbers in a client's string
numbers_of-lenient :
    (parts : List (List ℕ)) (numbers : List ℕ) →
    numbers_of Plain parts ≡ Some numbers →
    numbers_of Lenient parts ≡ Some numbers
numbers_of-lenient [] numbers plain = plain
numbers_of-lenient (part ∷ parts) numbers plain =
    let split = prepended_parts (number_in Plain part) (numbers_of Plain parts) numbers plain in
    let first : number_in Lenient part ≡ Some split.0 = number_in-lenient part split.0 split.2 in
    let rest : numbers_of Lenient parts ≡ Some split.1 = numbers_of-lenient parts split.1 split.3 in
    rw (first, rest) split.4

-- the number that a part spells is small
number_of-small : (part : List ℕ) (number : ℕ) → number_of part ≡ Some number → number < 2 ^ 32
number_of-small part number spelled = cases (is_number part) refl spelled
  where
    cases :
        (test : Bool) → is_number part ≡ test →
        cond test (Some (digits_value 10 part)) None ≡ Some number → number < 2 ^ 32
    cases true tested spelled =
        let parts = and_parts (nat_lt 0 (length part) && all_ascii_digits part) (nat_lt (digits_value 10 part) (2 ^ 32)) tested in
        let same : digits_value 10 part ≡ number = cc in
        rw (← same) (ltb-true (digits_value 10 part) (2 ^ 32) parts.1)
    cases false tested spelled = cc

-- a part that spells a number in some form spells a small one
number_in-small :
    (form : Form) (part : List ℕ) (number : ℕ) →
    number_in form part ≡ Some number →
    number < 2 ^ 32
number_in-small Plain part number spelled =
    number_of-small part number (unless_parts (has_leading_zero part) (number_of part) number spelled)
number_in-small Lenient part number spelled = number_of-small part number spelled

-- parts spell as many numbers as they are, and each is small
pub numbers_of-parts :
    (form : Form) (parts : List (List ℕ)) (numbers : List ℕ) →
    numbers_of form parts ≡ Some numbers →
    (length numbers ≡ length parts) × All (λ number. number < 2 ^ 32) numbers
numbers_of-parts form [] numbers spelled =
    let none : numbers ≡ [] = cc in
    rw none (refl, All-nil (λ number. number < 2 ^ 32))
numbers_of-parts form (part ∷ parts) numbers spelled =
    let split = prepended_parts (number_in form part) (numbers_of form parts) numbers spelled in
    let whole : split.0 ∷ split.1 ≡ numbers = cc in
    let others = numbers_of-parts form parts split.1 split.3 in
    rw (← whole) (omega arith, All-cons (λ number. number < 2 ^ 32) split.0 split.1 (number_in-small form part split.0 split.2) others.1)

-- a part of few parts is one of more
few_parts : (parts : ℕ) → nat_le parts 4 ≡ true → parts ≤ 16
few_parts parts few = grind (arith, nat_tests)

-- a publisher's string counts as the same version when a client sends it
pub lenient_version_of-plain :
    (text version : List ℕ) (written : ℕ) →
    version_of text ≡ Some (version, written) →
    lenient_version_of text ≡ version
unfolding version_of lenient_version_of components_of
lenient_version_of-plain text version written plain =
    let parts : List (List ℕ) = parts_of text in
    let chosen = chosen_parts (nat_le (length parts) 4) (option_map (λ numbers. (padded numbers, length numbers)) (numbers_of Plain parts)) (version, written) plain in
    let mapped = option_map_parts (λ numbers. (padded numbers, length numbers)) (numbers_of Plain parts) (version, written) chosen.1 in
    let spelled = numbers_of-lenient parts mapped.0 mapped.1 in
    rw (components_of_some Lenient text mapped.0 (few_parts (length parts) chosen.0) spelled) (ap (λ read. read.0) mapped.2)

-- the version of a string that counts as `0` if it spells none
pub lenient_version_of-unwrap_or :
    (text : List ℕ) (count : ℕ) →
    (unwrap_or (components_of Lenient text) (replicate 16 0, count)).0 ≡ lenient_version_of text
unfolding lenient_version_of
lenient_version_of-unwrap_or text count = first_or (components_of Lenient text) (replicate 16 0) count

-- the numbers of a publisher's string: at most four, each small, and the version is those and zeros
pub version_of-numbers :
    (text version : List ℕ) (written : ℕ) →
    version_of text ≡ Some (version, written) →
    (numbers : List ℕ) × (length numbers ≤ 4) × All (λ number. number < 2 ^ 32) numbers × (padded numbers ≡ version)
unfolding version_of components_of
version_of-numbers text version written plain =
    let parts : List (List ℕ) = parts_of text in
    let chosen = chosen_parts (nat_le (length parts) 4) (option_map (λ numbers. (padded numbers, length numbers)) (numbers_of Plain parts)) (version, written) plain in
    let mapped = option_map_parts (λ numbers. (padded numbers, length numbers)) (numbers_of Plain parts) (version, written) chosen.1 in
    let spelled = numbers_of-parts Plain parts mapped.0 mapped.1 in
    let few : length parts ≤ 4 = leb-true (length parts) 4 chosen.0 in
    (mapped.0, omega (arith, spelled.0), spelled.1, ap (λ read. read.0) mapped.2)
