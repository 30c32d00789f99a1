-- What is read of a reply's lines.
use Rattle.std.proofs.Common.{not, ◌||◌, ◌&&◌, ◌≡◌, ◌≢◌, ℕ, ◌+◌, ◌-◌, ◌^◌, ◌<◌, Bool, true, false, cond, List, [], ◌∷◌, ◌++◌, append_assoc, length, length-append, get_or, drop, Option, Some, None, unwrap_or, codes, decimal, refl, sym, ap, ◌∙◌, arith}
use Rattle.std.specs.List.{list_all, position_or_len}
use Rattle.std.specs.Str.{all_ascii_digits, bytes_eq, is_utf8}
use Rattle.std.specs.Str.Parse.{digits_value}
use Rattle.std.proofs.lemmas.Bool.{false_from_ne_true, false≢true, and_from, and_parts, eqb-true, leb-true, not-true}
use Rattle.std.proofs.lemmas.Bool.Decides.{nat_tests}
use Rattle.std.proofs.lemmas.Fmt.{decimal_nonempty, digits_decimal, digits_value-decimal}
use Rattle.std.proofs.lemmas.List.{drop_at, get_or_default, length-drop, take_at}
use Rattle.std.proofs.lemmas.List.Sums.{list_all-from_AllPass, passes_at_first, split_at_first}
use Rattle.std.proofs.lemmas.Slice.Eq.{bytes_eq-Decides}
use Rattle.std.proofs.lemmas.Str.Parse.{IsNumeralModel, not_in_digits, numerals_by_value, tells_all_ascii_digits}
use Rattle.omaha_arguments.specs.Options.{number_of}
use Rattle.operator_pages.specs.Health.{status_head, status_traffic}
use Rattle.package_files.specs.Lacking.{lacking_string}
use Rattle.package_files.specs.declared.lacking.Lack.{Lack}
use Rattle.package_files.specs.declared.lacking.Lack.TheVariants as lack
use Rattle.profile_toml.specs.declared.fault.ProfileFault.{ProfileFault}
use Rattle.profile_toml.specs.declared.fault.ProfileFault.TheVariants.{NotToml, BadSchema, BadEntry, BadMirror, TooManyEdits}
use Rattle.service_desks.specs.Following.{follow_word}
use Rattle.service_desks.specs.Lines.{edition_line, followed_line, raised_line, script_line}
use Rattle.service_desks.specs.Operators.{dump_word}
use Rattle.service_desks.specs.Raises.{digits_of, is_name, is_number, is_raise, is_space, line_of, name_of, raise_of}
use Rattle.omaha_commands.specs.Forms.{are_status_lines, before_feed, first_line, has_number, is_declining, is_expected, is_feed, is_line, is_numbered, is_raised, is_status, later_lines, line_after}
use Rattle.omaha_commands.specs.Laws.{IsScriptBody}

-- the strings of ASCII digits are those of decimal digits
numerals : IsNumeralModel (λ digits. all_ascii_digits digits ≡ true) (digits_value 10)
numerals = numerals_by_value _ tells_all_ascii_digits

-- a number's string spells the number
number_of-decimal : (number : ℕ) → number < 2 ^ 64 → number_of (decimal number) ≡ Some number
number_of-decimal number small =
    let some : 0 < length (decimal number) = decimal_nonempty number (omega arith) in
    let digits : all_ascii_digits (decimal number) ≡ true = digits_decimal numerals number (omega arith) in
    let value : digits_value 10 (decimal number) ≡ number = digits_value-decimal numerals number (omega arith) in
    rw (digits, value) (grind (arith, nat_tests))

-- bytes are before the line feed that follows them
before_feed-line : (line : List ℕ) → before_feed (line ++ codes "\n") ≡ Some line
before_feed-line line =
    let count : length line ≡ length (line ++ codes "\n") - 1 = omega (arith, length-append line (codes "\n")) in
    rw (take_at line (codes "\n") _ count, drop_at line (codes "\n") _ count) refl

-- a line is found after the word that begins it
pub line_after-word : (word line : List ℕ) → line_after word (word ++ (line ++ codes "\n")) ≡ Some line
line_after-word word line =
    rw (take_at word (line ++ codes "\n") (length word) refl, drop_at word (line ++ codes "\n") (length word) refl, (bytes_eq-Decides word word).1 refl)
    (before_feed-line line)

-- a line of a word and a number is one
pub is_numbered-line : (word : List ℕ) (number : ℕ) → number < 2 ^ 64 → is_numbered word (word ++ (decimal number ++ codes "\n")) ≡ true
is_numbered-line word number small = rw (line_after-word word (decimal number), number_of-decimal number small) refl

-- and so without its end
pub has_number-word : (word : List ℕ) (number : ℕ) → number < 2 ^ 64 → has_number word (word ++ decimal number) ≡ true
has_number-word word number small =
    rw (take_at word (decimal number) (length word) refl, drop_at word (decimal number) (length word) refl, (bytes_eq-Decides word word).1 refl, number_of-decimal number small) refl

-- a number's string has no line feed
decimal-within_line : (number : ℕ) → number < 2 ^ 64 → list_all (λ byte. not (is_feed byte)) (decimal number) ≡ true
decimal-within_line number small =
    list_all-from_AllPass (λ byte. not (is_feed byte)) (decimal number) (λ place past within.
    let same : get_or (decimal number) place past ≡ get_or (decimal number) place 0 = get_or_default (decimal number) place past 0 within in
    let other : get_or (decimal number) place 0 ≢ 10 = not_in_digits numerals (decimal number) 10 (digits_decimal numerals number small) (λ digit. omega arith) place within in
    grind (arith, nat_tests))

-- the first line feed is the one after a line
feed_behind : (line rest : List ℕ) → list_all (λ byte. not (is_feed byte)) line ≡ true → position_or_len is_feed (line ++ 10 ∷ rest) ≡ length line
feed_behind [] rest good = refl
feed_behind (byte ∷ line) rest good =
    let parts = and_parts _ _ good in
    rw (not-true (is_feed byte) parts.0, feed_behind line rest parts.1) (omega arith)

pub first_line-line : (line rest : List ℕ) → list_all (λ byte. not (is_feed byte)) line ≡ true → first_line (line ++ 10 ∷ rest) ≡ line
first_line-line line rest good = take_at line (10 ∷ rest) _ (sym (feed_behind line rest good))

pub later_lines-line : (line rest : List ℕ) → list_all (λ byte. not (is_feed byte)) line ≡ true → later_lines (line ++ 10 ∷ rest) ≡ rest
later_lines-line line rest good =
    ap (λ place. drop (place + 1) (line ++ 10 ∷ rest)) (feed_behind line rest good)
    ∙ rw (← append_assoc line (10 ∷ []) rest) (drop_at (line ++ 10 ∷ []) rest (length line + 1) (length-append line (10 ∷ [])))

-- the lines of a status
pub are_status_lines-lines :
    (edition started : ℕ) (rest : List ℕ) → edition < 2 ^ 64 → started < 2 ^ 64 →
    are_status_lines ((codes "edition " ++ decimal edition) ++ 10 ∷ ((codes "started " ++ decimal started) ++ 10 ∷ (codes "address " ++ rest))) ≡ true
are_status_lines-lines edition started rest edition_small started_small =
    let one : List ℕ = codes "edition " ++ decimal edition in
    let two : List ℕ = codes "started " ++ decimal started in
    let after : List ℕ = two ++ 10 ∷ (codes "address " ++ rest) in
    let one_good = decimal-within_line edition edition_small in
    let two_good = decimal-within_line started started_small in
    rw (
      first_line-line one after one_good,
      later_lines-line one after one_good,
      first_line-line two (codes "address " ++ rest) two_good,
      later_lines-line two (codes "address " ++ rest) two_good,
      has_number-word (codes "edition ") edition edition_small,
      has_number-word (codes "started ") started started_small,
    ) refl

-- what a valid raise asks for
pub record Asks (body : List ℕ) (asked : List ℕ × List ℕ) : Type 0 where
  pub digits : is_number (digits_of (line_of body)) ≡ true
  pub name : name_of (line_of body) ≡ asked.0
  pub budget : digits_of (line_of body) ≡ asked.1

Asks-raise_of : (body : List ℕ) (asked : List ℕ × List ℕ) → raise_of body ≡ Some asked → Asks body asked
Asks-raise_of body asked whole =
    by (is_utf8 (line_of body) && is_name (name_of (line_of body)) && is_number (digits_of (line_of body))) refl whole
  where
    by : (good : Bool) → (is_utf8 (line_of body) && is_name (name_of (line_of body)) && is_number (digits_of (line_of body))) ≡ good →
        cond {A = Option (List ℕ × List ℕ)} good (Some (name_of (line_of body), digits_of (line_of body))) None ≡ Some asked → Asks body asked
    by false is whole = cc
    by true is whole = record {
      digits = (and_parts _ _ is).1;
      name = ap (λ (read : Option (List ℕ × List ℕ)). (unwrap_or read asked).0) whole;
      budget = ap (λ (read : Option (List ℕ × List ℕ)). (unwrap_or read asked).1) whole;
    }

-- the line of a valid raise is its name and its budget, one space between them
asked-line : (body : List ℕ) (asked : List ℕ × List ℕ) → Asks body asked → (asked.0 ++ codes " ") ++ asked.1 ≡ line_of body
asked-line body asked asks =
    let line : List ℕ = line_of body in
    let some : 0 < length (digits_of line) = leb-true _ _ (and_parts _ _ (and_parts _ _ asks.digits).0).0 in
    let within : position_or_len is_space line < length line = omega (arith, some, length-drop (position_or_len is_space line + 1) line) in
    let space : get_or line (position_or_len is_space line) 0 ≡ 32 = eqb-true _ _ (passes_at_first is_space line 0 within) in
    let split = split_at_first is_space line 0 within in
    append_assoc asked.0 (codes " ") asked.1 ∙ rw (← asks.name, ← asks.budget) (sym (rw space at split))

-- the reply to a raise that was made is expected
pub is_raised-line : (body : List ℕ) (asked : List ℕ × List ℕ) → raise_of body ≡ Some asked → is_raised body (raised_line asked.0 asked.1) ≡ true
is_raised-line body asked whole =
    let line : List ℕ = (asked.0 ++ codes " ") ++ asked.1 in
    let same : line ≡ line_of body = asked-line body asked (Asks-raise_of body asked whole) in
    ap (is_line (line_of body)) (line_after-word (codes "raised ") line)
    ∙ ap (λ (said : List ℕ). bytes_eq said (line_of body)) same
    ∙ (bytes_eq-Decides (line_of body) (line_of body)).1 refl

-- the status that a server writes is expected
pub is_status-string :
    (edition started : ℕ) (address rest : List ℕ) (replies : ℕ) → edition < 2 ^ 64 → started < 2 ^ 64 →
    is_utf8 (status_head edition started ++ (status_traffic address replies ++ rest)) ≡ true →
    is_status (status_head edition started ++ (status_traffic address replies ++ rest)) ≡ true
is_status-string edition started address rest replies edition_small started_small read =
    let tail : List ℕ = status_traffic address replies ++ rest in
    let later : List ℕ = drop 8 tail in
    let same : status_head edition started ++ tail ≡ (codes "edition " ++ decimal edition) ++ 10 ∷ ((codes "started " ++ decimal started) ++ 10 ∷ tail) =
    head-lines edition started tail in
    and_from _ _ read (ap are_status_lines same ∙ are_status_lines-lines edition started later edition_small started_small)
  where
    head-lines : (edition started : ℕ) (tail : List ℕ) →
        status_head edition started ++ tail ≡ (codes "edition " ++ decimal edition) ++ 10 ∷ ((codes "started " ++ decimal started) ++ 10 ∷ tail)
    head-lines edition started tail =
        ap (λ (it : List ℕ). codes "edition " ++ it)
        (append_assoc ((decimal edition ++ codes "\nstarted ") ++ decimal started) (codes "\n") tail
        ∙ append_assoc (decimal edition ++ codes "\nstarted ") (decimal started) (10 ∷ tail)
        ∙ append_assoc (decimal edition) (codes "\nstarted ") (decimal started ++ 10 ∷ tail))

-- a body that begins as a raise is no word
no_word : (body word : List ℕ) → is_raise word ≡ false → is_raise body ≡ true → bytes_eq body word ≡ false
no_word body word other raise =
    false_from_ne_true (bytes_eq body word) (λ same. false≢true (sym other ∙ ap is_raise (sym ((bytes_eq-Decides body word).0 same)) ∙ raise))

-- one of two is enough
or_true : (either : Bool) → (either || true) ≡ true
or_true true = refl
or_true false = refl

-- the reply to a raise that was made is expected
pub is_expected-raised :
    (body : List ℕ) (asked : List ℕ × List ℕ) → is_raise body ≡ true → raise_of body ≡ Some asked →
    is_expected body (raised_line asked.0 asked.1) ≡ true
is_expected-raised body asked raise whole =
    rw (no_word body dump_word refl raise, no_word body (codes "status") refl raise, no_word body (codes "stop") refl raise, no_word body follow_word refl raise, raise)
    (is_raised-line body asked whole)

-- the reply to a script that is published is expected
pub is_expected-edition :
    (script : List ℕ) (number : ℕ) → IsScriptBody script → number < 2 ^ 64 → is_expected script (edition_line number) ≡ true
is_expected-edition script number is small =
    rw (is.dump, is.status, is.stop, is.follow, is.raise) (is_numbered-line (codes "edition ") number small)

-- the replies to a look for another server's record are expected
pub is_expected-followed : (number : ℕ) → number < 2 ^ 64 → is_expected follow_word (followed_line number) ≡ true
is_expected-followed number small =
    ap (λ (is : Bool). is || is_numbered (codes "edition ") (followed_line number)) (is_numbered-line (codes "followed ") number small)

pub is_expected-none : (number : ℕ) → number < 2 ^ 64 → is_expected follow_word (edition_line number) ≡ true
is_expected-none number small =
    ap (λ (is : Bool). is_numbered (codes "followed ") (edition_line number) || is) (is_numbered-line (codes "edition ") number small)
    ∙ or_true (is_numbered (codes "followed ") (edition_line number))

-- a fault of a script is said
pub is_declining-fault : (fault : ProfileFault) → is_declining (script_line fault) ≡ true
is_declining-fault NotToml = refl
is_declining-fault BadSchema = refl
is_declining-fault (BadEntry path) = refl
is_declining-fault (BadMirror index) = refl
is_declining-fault TooManyEdits = refl

-- what a package lacks is said
pub is_declining-lack : (name : List ℕ) (what : Lack) → is_declining (lacking_string name what ++ codes "\n") ≡ true
is_declining-lack name lack.Missing = refl
is_declining-lack name (lack.Size declared found) = refl
