-- The strings of a content's edits: spellings of versions, and hashes in hexadecimal.
use Rattle.std.proofs.Common.{◌≡◌, ℕ, zero, suc, ◌/◌, ◌%◌, ◌<◌, ◌≤◌, ◌||◌, Bool, true, false, cond, nat_le, List, [], ◌∷◌, length, slice_index, find, Option, Some, None, option_map, unwrap_or, replicate, refl, ap, ◌∙◌, arith}
use Rattle.std.specs.List.{list_all}
use Rattle.std.specs.Option.{is_none, option_map_or}
use Rattle.std.specs.Result.{result_ok}
use Rattle.std.specs.Str.{bytes_eq}
use Rattle.std.proofs.lemmas.Bool.{and_from, and_parts, eqb-true, leb-true, not_from_true}
use Rattle.std.proofs.lemmas.Slice.Eq.{bytes_eq-Decides}
use Rattle.hex.specs.Hex.{IsBytes, decode_sized, encode_lower, encode_with, lower_digits}
use Rattle.hex.proofs.HexLemmas.{decode_sized-encode_lower}
use Rattle.catalogue.specs.VersionLaws.{LenientAgrees}
use Rattle.catalogue.specs.Versions.{lenient_version_of, version_of}
use Rattle.catalogue.specs.Contents.{spelling_of}
use Rattle.catalogue.specs.Forms.{hash_named, hash_of, is_hash, is_hash_digit}
use Rattle.catalogue.specs.Lookups.{has_release, is_release}
use Rattle.catalogue.specs.Validity.{is_released, spells}
use Rattle.catalogue.specs.declared.content.Release.{Release}
use Rattle.catalogue.specs.Edits.CohortSettings.{is_misspelled, is_unreleased}

-- the string is read as the version
pub record IsRead (text version : List ℕ) : Type 0 where
  pub written : ℕ
  pub read : version_of text ≡ Some (version, written)

pub IsRead-spells : (text version : List ℕ) → spells text version ≡ true → IsRead text version
IsRead-spells text version spelled = cases (version_of text) refl spelled
  where
    cases :
        (o : Option (List ℕ × ℕ)) →
        version_of text ≡ o →
        option_map_or (λ read. bytes_eq read.0 version) o false ≡ true →
        IsRead text version
    cases None is found = absurd cc
    cases (Some read) is found =
        let same = (bytes_eq-Decides read.0 version).0 found in
        record { written = read.1; read = is ∙ ap (λ (v : List ℕ). Some (v, read.1)) same }

pub is_none-spells : (text version : List ℕ) → spells text version ≡ true → is_none (version_of text) ≡ false
is_none-spells text version spelled = ap (λ (o : Option (List ℕ × ℕ)). is_none o) (IsRead-spells text version spelled).read

pub lenient_version_of-spells :
    LenientAgrees →
    (text version : List ℕ) →
    spells text version ≡ true →
    lenient_version_of text ≡ version
lenient_version_of-spells agrees text version spelled =
    let is = IsRead-spells text version spelled in agrees text version is.written is.read

-- the spelling of a release that is there spells its version, where each release's spelling does
pub spells-spelling_of :
    (releases : List Release) →
    list_all (λ release. spells release.spelled release.version) releases ≡ true →
    (version : List ℕ) →
    has_release releases version ≡ true →
    spells (spelling_of releases version) version ≡ true
spells-spelling_of [] all version there = absurd cc
spells-spelling_of (release ∷ releases) all version there =
    let parts = and_parts (spells release.spelled release.version) (list_all (λ r. spells r.spelled r.version) releases) all in
    cases (is_release version release) refl parts.0 there (spells-spelling_of releases parts.1 version)
  where
    cases :
        (b : Bool) →
        is_release version release ≡ b →
        spells release.spelled release.version ≡ true →
        (b || has_release releases version) ≡ true →
        (has_release releases version ≡ true → spells (spelling_of releases version) version ≡ true) →
        spells (option_map_or (λ r. r.spelled) (cond b (Some release) (find (is_release version) releases)) []) version ≡ true
    cases true same good first others =
        ap (λ (v : List ℕ). spells release.spelled v) ((bytes_eq-Decides version release.version).0 same) ∙ good
    cases false other good later others = others later

-- the strings of released targets
module _ (agrees : LenientAgrees) (releases : List Release) (all : list_all (λ release. spells release.spelled release.version) releases ≡ true) where
  pub option_map-spelling_of :
      (version : Option (List ℕ)) →
      is_released releases version ≡ true →
      option_map lenient_version_of (option_map (spelling_of releases) version) ≡ version
  option_map-spelling_of None there = refl
  option_map-spelling_of (Some version) there =
      ap Some (lenient_version_of-spells agrees (spelling_of releases version) version (spells-spelling_of releases all version there))

  pub is_misspelled-spelling_of :
      (version : Option (List ℕ)) →
      is_released releases version ≡ true →
      is_misspelled (option_map (spelling_of releases) version) ≡ false
  is_misspelled-spelling_of None there = refl
  is_misspelled-spelling_of (Some version) there =
      is_none-spells (spelling_of releases version) version (spells-spelling_of releases all version there)

  pub is_unreleased-spelling_of :
      (version : Option (List ℕ)) →
      is_released releases version ≡ true →
      is_unreleased releases (option_map (spelling_of releases) version) ≡ false
  is_unreleased-spelling_of None there = refl
  is_unreleased-spelling_of (Some version) there =
      not_from_true _
      (ap (has_release releases) (lenient_version_of-spells agrees (spelling_of releases version) version (spells-spelling_of releases all version there)) ∙ there)

-- an item of a list of which all pass
list_all-index :
    (p : ℕ → Bool) (xs : List ℕ) (i : ℕ) →
    list_all p xs ≡ true →
    i < length xs →
    p (slice_index xs i) ≡ true
list_all-index p [] i all within = absurd (omega arith)
list_all-index p (x ∷ xs) zero all within = (and_parts (p x) (list_all p xs) all).0
list_all-index p (x ∷ xs) (suc i) all within = list_all-index p xs i (and_parts (p x) (list_all p xs) all).1 (omega arith)

is_hash_digit-lower : (i : ℕ) → i < 16 → is_hash_digit (slice_index lower_digits i) ≡ true
is_hash_digit-lower i within = list_all-index is_hash_digit lower_digits i refl within

-- bytes print as digits of a hash
are_hash_digits-encode_lower :
    (bytes : List ℕ) →
    list_all (λ byte. nat_le byte 255) bytes ≡ true →
    list_all is_hash_digit (encode_lower bytes) ≡ true
unfolding encode_with
are_hash_digits-encode_lower [] all = refl
are_hash_digits-encode_lower (x ∷ xs) all =
    let parts = and_parts (nat_le x 255) (list_all (λ byte. nat_le byte 255) xs) all in
    let bounded : x ≤ 255 = leb-true x 255 parts.0 in
    and_from _ _ (is_hash_digit-lower (x / 16) (omega arith))
    (and_from _ _ (is_hash_digit-lower (x % 16) (omega arith)) (are_hash_digits-encode_lower xs parts.1))

IsBytes-from_test : (bytes : List ℕ) → list_all (λ byte. nat_le byte 255) bytes ≡ true → IsBytes bytes
IsBytes-from_test [] all i = omega arith
IsBytes-from_test (x ∷ xs) all zero =
    let bounded : x ≤ 255 = leb-true x 255 (and_parts (nat_le x 255) (list_all (λ byte. nat_le byte 255) xs) all).0 in omega arith
IsBytes-from_test (x ∷ xs) all (suc i) = IsBytes-from_test xs (and_parts (nat_le x 255) (list_all (λ byte. nat_le byte 255) xs) all).1 i

-- a hash is what its string spells
pub hash_of-encode_lower : (hash : List ℕ) → is_hash hash ≡ true → hash_of (encode_lower hash) ≡ Some hash
unfolding hash_of
hash_of-encode_lower hash good =
    let parts = and_parts _ (list_all (λ byte. nat_le byte 255) hash) good in
    ap (λ b. cond b (result_ok (decode_sized (encode_lower hash) 32)) None) (are_hash_digits-encode_lower hash parts.1)
    ∙ ap result_ok (decode_sized-encode_lower hash 32 (eqb-true (length hash) 32 parts.0) (IsBytes-from_test hash parts.1))

pub hash_named-encode_lower : (hash : List ℕ) → is_hash hash ≡ true → hash_named (encode_lower hash) ≡ hash
hash_named-encode_lower hash good = ap (λ (o : Option (List ℕ)). unwrap_or o (replicate 32 0)) (hash_of-encode_lower hash good)
