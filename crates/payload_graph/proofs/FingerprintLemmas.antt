-- Which release a fingerprint names, by the hash that it spells.
use Rattle.std.proofs.Common.{◌≡◌, ℕ, zero, suc, ◌/◌, ◌%◌, ◌<◌, inl, inr, Bool, true, false, List, [], ◌∷◌, ◌++◌, length, get_or, leb, Option, None, Some, codes, refl, sym, ap, ◌∙◌, arith}
use Rattle.std.specs.List.{AllByRecursion, list_all, position, position_or_len, slice_get}
use Rattle.std.specs.Option.{option_map_or}
use Rattle.std.specs.Bool.{Decides}
use Rattle.std.specs.Str.{bytes_eq}
use Rattle.std.proofs.lemmas.Bool.{and_parts, cases_lt, eqb-true, false_from_ne_true, leb-true}
use Rattle.std.proofs.lemmas.Bool.Decides.{nat_tests, same_from_decides, Decides-like}
use Rattle.std.proofs.lemmas.List.{get_or_past}
use Rattle.std.proofs.lemmas.Option.{get_or_from_slice_get, slice_get_cases}
use Rattle.std.proofs.lemmas.Slice.Eq.{bytes_eq-Decides}
use Rattle.std.specs.Prelude.{Result, Ok}
use Rattle.std.specs.Result.{result_ok}
use Rattle.values.specs.Lists.{IsOnce}
use Rattle.values.proofs.OnceLemmas.{position-once}
use Rattle.hex.specs.Hex.{IsBytes, decode_sized, encode_lower, encode_with, hex_digit_value, lower_digits}
use Rattle.hex.specs.declared.error.FromHexError.{FromHexError}
use Rattle.hex.proofs.HexLemmas.{IsDigits-lower_digits, decode_sized-encode_lower}
use Rattle.catalogue.specs.Lookups.{cohorts_at, has_hash, releases_at}
use Rattle.catalogue.specs.Validity.{IsValid, IsValidApp, is_valid_release}
use Rattle.catalogue.specs.declared.content.App.{App}
use Rattle.catalogue.specs.declared.content.Cohort.{Cohort}
use Rattle.catalogue.specs.declared.content.Release.{Release}
use Rattle.payload_graph.specs.Places.{fingerprint_with, has_fingerprint, IsHashOf}

-- a digit of the table is one number
digit-injective : (digit other : ℕ) → digit < 16
    → get_or lower_digits digit 0 ≡ get_or lower_digits other 0 → digit ≡ other
digit-injective digit other small same =
    let read : hex_digit_value (get_or lower_digits digit 0) ≡ Some digit = IsDigits-lower_digits digit small in
    elim (cases_lt other 16) [
      | inl below ↦
          let read_other : hex_digit_value (get_or lower_digits other 0) ≡ Some other = IsDigits-lower_digits other below in
          let both : Some digit ≡ Some other = sym read ∙ ap hex_digit_value same ∙ read_other in
          cc
      | inr past ↦
          let none : get_or lower_digits other 0 ≡ 0 = get_or_past lower_digits other 0 past in
          let nothing : None ≡ Some digit = sym (ap hex_digit_value (same ∙ none)) ∙ read in
          cc
    ]

-- digits spell one list of bytes
pub encode_lower-injective : (bytes others : List ℕ) → IsBytes bytes
    → encode_lower bytes ≡ encode_lower others → bytes ≡ others
unfolding encode_with
encode_lower-injective [] [] are_bytes same = refl
encode_lower-injective [] (other ∷ others) are_bytes same = cc
encode_lower-injective (byte ∷ bytes) [] are_bytes same = cc
encode_lower-injective (byte ∷ bytes) (other ∷ others) are_bytes same =
    let small : byte < 256 = are_bytes 0 in
    let high_digit : get_or lower_digits (byte / 16) 0 ≡ get_or lower_digits (other / 16) 0 = cc in
    let low_digit : get_or lower_digits (byte % 16) 0 ≡ get_or lower_digits (other % 16) 0 = cc in
    let rest : encode_with lower_digits bytes ≡ encode_with lower_digits others = cc in
    let high = digit-injective (byte / 16) (other / 16) (omega arith) high_digit in
    let low = digit-injective (byte % 16) (other % 16) (omega arith) low_digit in
    let first : byte ≡ other = omega (arith, high, low) in
    let tail = encode_lower-injective bytes others (λ index. are_bytes (suc index)) rest in
    cc

-- digits that don't decode are those of no hash
pub IsHashOf-undecoded : (fp digits : List ℕ) (read : Result (List ℕ) FromHexError)
    → fp ≡ codes "1." ++ digits → read ≡ decode_sized digits 32 → None ≡ result_ok read
    → IsHashOf fp None
IsHashOf-undecoded fp digits read front decoded nothing hash sized are_bytes same =
    let both : codes "1." ++ digits ≡ fingerprint_with hash = sym front ∙ same in
    let spelled : digits ≡ encode_lower hash = cc in
    let found : read ≡ Ok hash = decoded ∙ ap (λ text. decode_sized text 32) spelled ∙ decode_sized-encode_lower hash 32 sized are_bytes in
    let none : None ≡ Some hash = nothing ∙ ap result_ok found in
    cc

-- digits that are not those of what they decode to are those of no hash
pub IsHashOf-otherwise : (fp digits hash : List ℕ) (read : Result (List ℕ) FromHexError)
    → fp ≡ codes "1." ++ digits → read ≡ decode_sized digits 32 → Some hash ≡ result_ok read
    → bytes_eq digits (encode_lower hash) ≡ false → IsHashOf fp None
IsHashOf-otherwise fp digits hash read front decoded some differs other sized are_bytes same =
    let both : codes "1." ++ digits ≡ fingerprint_with other = sym front ∙ same in
    let spelled : digits ≡ encode_lower other = cc in
    let found : read ≡ Ok other = decoded ∙ ap (λ text. decode_sized text 32) spelled ∙ decode_sized-encode_lower other 32 sized are_bytes in
    let own : Some hash ≡ Some other = some ∙ ap result_ok found in
    let one : other ≡ hash = cc in
    let true_of : bytes_eq digits (encode_lower hash) ≡ true = (bytes_eq-Decides digits (encode_lower hash)).1 (spelled ∙ ap encode_lower one) in
    let clash : true ≡ false = sym true_of ∙ differs in
    cc

-- a fingerprint is a release's exactly if its hash is the release's
has_fingerprint-has_hash : (fp hash : List ℕ) (release : Release) → IsHashOf fp (Some hash)
    → has_hash hash release ≡ has_fingerprint fp release
has_fingerprint-has_hash fp hash release is =
    let spelled : fp ≡ fingerprint_with hash = is.0 in
    let decides : Decides (bytes_eq hash release.hash) (hash ≡ release.hash) = bytes_eq-Decides hash release.hash in
    same_from_decides _ _ (Decides-like _ there back decides) (bytes_eq-Decides fp (fingerprint_with release.hash))
  where
    there : hash ≡ release.hash → fp ≡ fingerprint_with release.hash
    there same = is.0 ∙ ap fingerprint_with same

    back : fp ≡ fingerprint_with release.hash → hash ≡ release.hash
    back same =
        let both : fingerprint_with hash ≡ fingerprint_with release.hash = sym is.0 ∙ same in
        let digits : encode_lower hash ≡ encode_lower release.hash = cc in
        encode_lower-injective hash release.hash is.1 digits

-- tests that agree on each valid item agree on its first place
position_or_len-agrees : {A : Type 0} (good test other : A → Bool)
    → ((item : A) → good item ≡ true → test item ≡ other item)
    → (items : List A) → list_all good items ≡ true
    → position_or_len test items ≡ position_or_len other items
position_or_len-agrees good test other agrees [] are_good = refl
position_or_len-agrees good test other agrees (item ∷ items) are_good =
    let parts = and_parts _ _ are_good in
    rw (agrees item parts.0, position_or_len-agrees good test other agrees items parts.1) refl

-- the release of a fingerprint is that of its hash
pub position-has_hash : (fp hash : List ℕ) (releases : List Release) → IsHashOf fp (Some hash)
    → position (has_hash hash) releases ≡ position (has_fingerprint fp) releases
position-has_hash fp hash releases is =
    rw (position_or_len-agrees (λ _. true) (has_hash hash) (has_fingerprint fp) (λ release _. has_fingerprint-has_hash fp hash release is) releases (all_pass releases)) refl
  where
    all_pass : (releases : List Release) → list_all (λ (_ : Release). true) releases ≡ true
    all_pass [] = refl
    all_pass (release ∷ releases) = all_pass releases

-- the bytes of a list of small numbers
IsBytes-small : (bytes : List ℕ) → list_all (λ byte. leb byte 255) bytes ≡ true → IsBytes bytes
IsBytes-small [] small index = omega arith
IsBytes-small (byte ∷ bytes) small zero =
    let fits = leb-true byte 255 (and_parts (leb byte 255) _ small).0 in
    omega (arith, fits)
IsBytes-small (byte ∷ bytes) small (suc index) = IsBytes-small bytes (and_parts _ _ small).1 index

-- a string that is no hash's fingerprint is no release's
is_not_fingerprint : (fp : List ℕ) (cohorts : List Cohort) (release : Release) → IsHashOf fp None
    → is_valid_release cohorts release ≡ true → has_fingerprint fp release ≡ false
is_not_fingerprint fp cohorts release none good =
    let hash = and_parts _ _ (and_parts _ _ (and_parts _ _ good).0).1 in
    let sized : length release.hash ≡ 32 = eqb-true _ _ hash.0 in
    let differs = none release.hash sized (IsBytes-small release.hash hash.1) in
    false_from_ne_true _ (λ same. differs ((bytes_eq-Decides fp (fingerprint_with release.hash)).0 same))

-- a string that is no hash's fingerprint has no release
position-has_fingerprint : (fp : List ℕ) (cohorts : List Cohort) (releases : List Release)
    → IsHashOf fp None → list_all (is_valid_release cohorts) releases ≡ true
    → position (has_fingerprint fp) releases ≡ None
position-has_fingerprint fp cohorts releases none good =
    let past : position_or_len (has_fingerprint fp) releases ≡ length releases = first_past releases good in
    rw past (grind (arith, nat_tests))
  where
    first_past : (releases : List Release) → list_all (is_valid_release cohorts) releases ≡ true → position_or_len (has_fingerprint fp) releases ≡ length releases
    first_past [] good = refl
    first_past (release ∷ releases) good =
        let parts = and_parts _ _ good in
        rw (is_not_fingerprint fp cohorts release none parts.0, first_past releases parts.1) (omega arith)

-- what holds of all apps holds of the one at an index
at_index : (P : App → Type 0) (apps : List App) (index : ℕ) (app : App)
    → AllByRecursion P apps → slice_get apps index ≡ Some app → P app
at_index P [] index app all there = cc
at_index P (first ∷ apps) zero app all there =
    let same : first ≡ app = cc in
    rw (← same) all.0
at_index P (first ∷ apps) (suc index) app all there = at_index P apps index app all.1 there

-- the releases of each app of a valid content are valid
releases_at-good : (apps : List App) (index : ℕ) → IsValid apps
    → list_all (is_valid_release (cohorts_at apps index)) (releases_at apps index) ≡ true
releases_at-good apps index valid = cases (slice_get apps index) refl
  where
    cases : (found : Option App) → slice_get apps index ≡ found
        → list_all (is_valid_release (option_map_or (λ app. app.cohorts) found [])) (option_map_or (λ app. app.releases) found []) ≡ true
    cases None nowhere = refl
    cases (Some app) there = (at_index IsValidApp apps index app valid.apps_valid there).releases_valid

-- in a valid content a string that is no hash's fingerprint has no release
pub position-no_fingerprint : (apps : List App) (index : ℕ) (fp : List ℕ) → IsValid apps
    → IsHashOf fp None → position (has_fingerprint fp) (releases_at apps index) ≡ None
position-no_fingerprint apps index fp valid none =
    position-has_fingerprint fp (cohorts_at apps index) (releases_at apps index) none (releases_at-good apps index valid)

-- in a valid content no two releases of an app have one hash
pub hashes_at-once : (apps : List App) (index : ℕ) → IsValid apps → IsOnce has_hash (releases_at apps index)
hashes_at-once apps index valid = cases (slice_get apps index) refl
  where
    cases : (found : Option App) → slice_get apps index ≡ found → IsOnce has_hash (option_map_or (λ app. app.releases) found [])
    cases None nowhere = λ hash. omega arith
    cases (Some app) there = (at_index IsValidApp apps index app valid.apps_valid there).hashes_once

-- an item at an index is within the list
within_from_there : {A : Type 0} (items : List A) (index : ℕ) (item : A)
    → slice_get items index ≡ Some item → index < length items
within_from_there items index item there = elim (slice_get_cases items index).1 [
  | inl within ↦ within.1
  | inr past ↦
      let nothing : None ≡ Some item = sym past.1 ∙ there in
      cc
]

-- what holds of all items holds of the one at an index
good_at : {A : Type 0} (good : A → Bool) (items : List A) (index : ℕ) (item : A)
    → list_all good items ≡ true → slice_get items index ≡ Some item → good item ≡ true
good_at good [] index item all there = cc
good_at good (first ∷ items) zero item all there =
    let same : first ≡ item = cc in
    rw (← same) (and_parts _ _ all).0
good_at good (first ∷ items) (suc index) item all there = good_at good items index item (and_parts _ _ all).1 there

-- in a valid content a release that has a fingerprint is the one that has it
pub position-fingerprint : (apps : List App) (app index : ℕ) (release : Release) (fp : List ℕ) → IsValid apps
    → slice_get (releases_at apps app) index ≡ Some release → has_fingerprint fp release ≡ true
    → position (has_fingerprint fp) (releases_at apps app) ≡ Some index
position-fingerprint apps app index release fp valid there has =
    let releases = releases_at apps app in
    let good = good_at (is_valid_release (cohorts_at apps app)) releases index release (releases_at-good apps app valid) there in
    let hash = and_parts _ _ (and_parts _ _ (and_parts _ _ good).0).1 in
    let spelled : fp ≡ fingerprint_with release.hash = (bytes_eq-Decides fp (fingerprint_with release.hash)).0 has in
    let is : IsHashOf fp (Some release.hash) = (spelled, IsBytes-small release.hash hash.1) in
    let own : has_hash release.hash release ≡ true = (bytes_eq-Decides release.hash release.hash).1 refl in
    let here : position (has_hash release.hash) releases ≡ Some index =
    position-once (has_hash release.hash) releases index (hashes_at-once apps app valid release.hash) (within_from_there releases index release there)
    (λ other. ap (has_hash release.hash) (get_or_from_slice_get releases index release other there) ∙ own) in
    sym (position-has_hash fp release.hash releases is) ∙ here
