-- What the line of a release states is what is written of it.
use Rattle.std.proofs.Common.{◌≡◌, ℕ, ◌+◌, ◌-◌, ◌^◌, ◌<◌, Bool, true, false, cond, codes, List, [], ◌∷◌, ◌++◌, length, get_or, nat_lt, ◌&&◌, ◌||◌, Option, None, Some, unwrap_or, refl, sym, ap, ◌∙◌, arith}
use Rattle.std.specs.Prelude.{position}
use Rattle.std.specs.Fmt.{decimal}
use Rattle.std.specs.List.{position_or_len}
use Rattle.std.specs.Option.{is_some, option_and_then, option_map, option_map_or}
use Rattle.std.specs.Str.{bytes_eq}
use Rattle.std.specs.Str.Parse.{digits_value}
use Rattle.std.proofs.lemmas.Bool.{and_parts, eqb-true, false≢true}
use Rattle.std.proofs.lemmas.Bool.Decides.{nat_tests}
use Rattle.std.proofs.lemmas.Fmt.{decimal-digits_value}
use Rattle.std.proofs.lemmas.List.{length-drop}
use Rattle.std.proofs.lemmas.List.Quantifiers.{position-Some}
use Rattle.std.proofs.lemmas.List.Sums.{passes_at_first, split_at_first}
use Rattle.std.proofs.lemmas.Option.{slice_get-get_or}
use Rattle.std.proofs.lemmas.Slice.Eq.{bytes_eq-Decides}
use Rattle.std.proofs.lemmas.Str.Parse.{digits_value_short}
use Rattle.catalogue.specs.Versions.{version_of, components_of}
use Rattle.catalogue.specs.declared.content.Release.{Release}
use Rattle.payload_graph.specs.declared.edge.Kind.TheVariants.{Full, Differ}
use Rattle.price_cert.specs.declared.row.Row.{Row}
use Rattle.price_cert.specs.declared.row.Row.TheVariants.{Nothing, End, Price}
use Rattle.certificates.specs.Forms.{first_of, is_either, is_plain, is_space, is_version, number_below, price_bound, rest_of}
use Rattle.certificates.specs.Reading.{entry_of, is_entry, is_payload, is_spelled, kind_named, payload_of}
use Rattle.certificates.specs.Strings.{entry_string, kind_word, spelled_at}
use Rattle.certificates.proofs.NumberLemmas.{IsPlain-is_plain, numerals}

-- a line with something after its first space is both parts with that space
pub fields-whole : (line : List ℕ) → 0 < length (rest_of line) → line ≡ first_of line ++ 32 ∷ rest_of line
fields-whole line some =
    let place : ℕ = position_or_len is_space line in
    let left : length (rest_of line) ≡ length line - (place + 1) = length-drop (place + 1) line in
    let within : place < length line = omega (arith, left, some) in
    let space : get_or line place 0 ≡ 32 = eqb-true (get_or line place 0) 32 (passes_at_first is_space line 0 within) in
    split_at_first is_space line 0 within ∙ ap (λ byte. first_of line ++ (byte ∷ rest_of line)) space

-- a version has a byte
version-some : (text : List ℕ) → is_version text ≡ true → 0 < length text
unfolding version_of components_of
version-some [] is = absurd (false≢true is)
version-some (byte ∷ text) is = omega arith

-- so has a kind, and what has one
kind-some : (text : List ℕ) → is_either (codes "full") (codes "diff") (first_of text) ≡ true → 0 < length text
kind-some [] is = absurd (false≢true is)
kind-some (byte ∷ text) is = omega arith

-- what a line states has a byte
pub entry-some : (entry : List ℕ) → is_entry entry ≡ true → 0 < length entry
entry-some [] is = absurd (false≢true is)
entry-some (byte ∷ entry) is = omega arith

-- a number is written as it was read
number-back : (bound : ℕ) (digits : List ℕ) (number : ℕ) → number_below bound digits ≡ Some number →
    decimal number ≡ digits
number-back bound digits number read = by_form (is_plain digits) refl (nat_lt (digits_value 10 digits) bound) read
  where
    written : is_plain digits ≡ true → decimal (digits_value 10 digits) ≡ digits
    written is =
        let plain = IsPlain-is_plain digits is in
        let short : digits_value 10 digits < 10 ^ 16 = digits_value_short numerals digits 16 plain.are_digits plain.few in
        decimal-digits_value numerals digits plain.are_digits plain.some
        (λ zero. grind (arith, nat_tests, plain.plain, plain.some)) (omega (arith, short))

    by_form :
        (form : Bool) → is_plain digits ≡ form → (below : Bool) →
        cond {A = Option ℕ} (form && below) (Some (digits_value 10 digits)) None ≡ Some number → decimal number ≡ digits
    by_form true is true read =
        let same : digits_value 10 digits ≡ number = ap (λ (r : Option ℕ). unwrap_or r number) read in
        sym (ap decimal same) ∙ written is
    by_form true is false read = cc
    by_form false is below read = cc

-- the release that is found is spelled so
spelled-back : (releases : List Release) (text : List ℕ) (to : ℕ) → position (is_spelled text) releases ≡ Some to →
    spelled_at releases to ≡ text
spelled-back [] text to found = cc
spelled-back (release ∷ others) text to found =
    let at = position-Some (is_spelled text) (release ∷ others) to release found in
    let there = slice_get-get_or (release ∷ others) to release at.0 in
    ap (λ (r : Option Release). option_map_or (λ (own : Release). own.spelled) r []) there
    ∙ sym ((bytes_eq-Decides text (get_or (release ∷ others) to release).spelled).0 at.1)

-- a kind is written as it was read
kind-back : (word : List ℕ) → is_either (codes "full") (codes "diff") word ≡ true → kind_word (kind_named word) ≡ word
kind-back word is = by_word (bytes_eq word (codes "full")) refl is
  where
    by_word : (full : Bool) → bytes_eq word (codes "full") ≡ full → (full || bytes_eq word (codes "diff")) ≡ true →
        kind_word (cond full Full Differ) ≡ word
    by_word true same is = sym ((bytes_eq-Decides word (codes "full")).0 same)
    by_word false other is = sym ((bytes_eq-Decides word (codes "diff")).0 is)

-- what a line states of a payload is written as it was read
payload-back :
    (releases : List Release) (entry : List ℕ) (row : Row) →
    is_payload entry ≡ true → payload_of releases entry ≡ Some row → entry ≡ entry_string releases row
payload-back releases entry row is read =
    by_price (number_below price_bound (first_of entry)) refl read
  where
    rest : List ℕ
    rest = rest_of entry

    version : List ℕ
    version = rest_of rest

    outer : (is_some (number_below price_bound (first_of entry)) && is_either (codes "full") (codes "diff")
        (first_of rest) ≡ true) × (is_version version ≡ true)
    outer = and_parts (is_some (number_below price_bound (first_of entry)) && is_either (codes "full") (codes "diff")
        (first_of rest)) (is_version version) is

    is_kind : is_either (codes "full") (codes "diff") (first_of rest) ≡ true
    is_kind = (and_parts (is_some (number_below price_bound (first_of entry)))
        (is_either (codes "full") (codes "diff") (first_of rest)) outer.0).1

    whole : entry ≡ first_of entry ++ 32 ∷ (first_of rest ++ 32 ∷ version)
    whole = fields-whole entry (kind-some rest is_kind) ∙ ap (λ r. first_of entry ++ 32 ∷ r)
        (fields-whole rest (version-some version outer.1))

    by_place :
        (price : ℕ) → decimal price ≡ first_of entry → (found : Option ℕ) →
        position (is_spelled version) releases ≡ found →
        option_map (λ to. Price price (kind_named (first_of rest)) to) found ≡ Some row →
        entry ≡ entry_string releases row
    by_place price written None found read = cc
    by_place price written (Some to) found read =
        let same : Price price (kind_named (first_of rest)) to ≡ row = ap (λ (r : Option Row). unwrap_or r row) read in
        whole
        ∙ ap (λ digits. digits ++ 32 ∷ (first_of rest ++ 32 ∷ version)) (sym written)
        ∙ ap (λ word. decimal price ++ 32 ∷ (word ++ 32 ∷ version)) (sym (kind-back (first_of rest) is_kind))
        ∙ ap (λ spelled. decimal price ++ 32 ∷ (kind_word (kind_named (first_of rest)) ++ 32 ∷ spelled))
        (sym (spelled-back releases version to found))
        ∙ ap (entry_string releases) same

    by_price :
        (found : Option ℕ) → number_below price_bound (first_of entry) ≡ found →
        option_and_then (λ price. option_map (λ to. Price price (kind_named (first_of rest)) to)
        (position (is_spelled version) releases)) found ≡ Some row →
        entry ≡ entry_string releases row
    by_price None found read = cc
    by_price (Some price) found read =
        by_place price (number-back price_bound (first_of entry) price found) (position (is_spelled version) releases)
        refl read

-- so is all that a line states of its release
pub entry-back :
    (releases : List Release) (entry : List ℕ) (row : Row) →
    is_entry entry ≡ true → entry_of releases entry ≡ Some row → entry ≡ entry_string releases row
entry-back releases entry row is read = by_nothing (bytes_eq entry (codes "none")) refl is read
  where
    by_end :
        (end : Bool) → bytes_eq entry (codes "0 end") ≡ end → (end || is_payload entry) ≡ true →
        cond end (Some End) (payload_of releases entry) ≡ Some row → entry ≡ entry_string releases row
    by_end true same is read =
        (bytes_eq-Decides entry (codes "0 end")).0 same
        ∙ ap (entry_string releases) (ap (λ (r : Option Row). unwrap_or r row) read)
    by_end false other is read = payload-back releases entry row is read

    by_nothing :
        (nothing : Bool) → bytes_eq entry (codes "none") ≡ nothing →
        ((nothing || bytes_eq entry (codes "0 end")) || is_payload entry) ≡ true →
        cond nothing (Some Nothing) (cond (bytes_eq entry (codes "0 end")) (Some End) (payload_of releases entry)) ≡
        Some row →
        entry ≡ entry_string releases row
    by_nothing true same is read =
        (bytes_eq-Decides entry (codes "none")).0 same
        ∙ ap (entry_string releases) (ap (λ (r : Option Row). unwrap_or r row) read)
    by_nothing false other is read = by_end (bytes_eq entry (codes "0 end")) refl is read
