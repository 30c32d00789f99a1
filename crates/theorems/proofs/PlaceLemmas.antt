-- The place of a client that sends a release's fingerprint: at that release, since the hashes of an app
-- are used once.
use Rattle.std.proofs.Common.{◌≡◌, ℕ, zero, suc, true, cond, leb, ltb, List, [], ◌∷◌, length, Option, None, Some, refl, sym, ap, ◌∙◌, arith}
use Rattle.std.specs.List.{list_all, position, position_or_len, slice_get}
use Rattle.std.specs.Option.{option_map_or}
use Rattle.std.specs.Prelude.{Ok}
use Rattle.std.specs.Str.{bytes_eq}
use Rattle.std.proofs.lemmas.Bool.{and_parts, eqb-true, leb-true}
use Rattle.std.proofs.lemmas.Bool.Decides.{Decides-like, same_from_decides}
use Rattle.std.proofs.lemmas.Option.{get_or_from_slice_get, slice_get_within}
use Rattle.std.proofs.lemmas.Slice.Eq.{bytes_eq-Decides}
use Rattle.hex.specs.Hex.{IsBytes, decode_sized, encode_lower}
use Rattle.hex.proofs.HexLemmas.{decode_sized-encode_lower}
use Rattle.catalogue.specs.Versions.{lenient_version_of}
use Rattle.values.proofs.OnceLemmas.{position-once}
use Rattle.catalogue.specs.Lookups.{has_hash}
use Rattle.catalogue.specs.Validity.{IsValidApp, is_valid_release}
use Rattle.catalogue.specs.declared.content.App.{App}
use Rattle.catalogue.specs.declared.content.Cohort.{Cohort}
use Rattle.catalogue.specs.declared.content.Release.{Release}
use Rattle.payload_graph.specs.Places.{fingerprint_of, fingerprint_with, has_fingerprint, place_of}
use Rattle.payload_graph.specs.declared.place.Place.TheVariants.{At, Outside}
use Rattle.theorems.proofs.ItemLemmas.{list_all-slice_get}

IsBytes-small : (bytes : List ℕ) → list_all (λ byte. leb byte 255) bytes ≡ true → IsBytes bytes
IsBytes-small [] small index = omega arith
IsBytes-small (byte ∷ bytes) small zero =
    let fits = leb-true byte 255 (and_parts (leb byte 255) _ small).0 in
    omega (arith, fits)
IsBytes-small (byte ∷ bytes) small (suc index) = IsBytes-small bytes (and_parts _ _ small).1 index

-- a hash: 32 bytes
record IsHash (hash : List ℕ) : Type 0 where
  sized : length hash ≡ 32
  bytes : IsBytes hash

IsHash-good :
    (cohorts : List Cohort) (release : Release) → is_valid_release cohorts release ≡ true → IsHash release.hash
IsHash-good cohorts release good =
    let hash = and_parts _ _ (and_parts _ _ (and_parts _ _ good).0).1 in
    record { sized = eqb-true _ _ hash.0; bytes = IsBytes-small release.hash hash.1 }

-- two hashes of one fingerprint are one
same-fingerprint :
    (hash other : List ℕ) → IsHash hash → IsHash other → fingerprint_with hash ≡ fingerprint_with other → hash ≡ other
same-fingerprint hash other is other_is same =
    let digits : encode_lower hash ≡ encode_lower other = cc in
    let read : Ok hash ≡ Ok other =
    sym (decode_sized-encode_lower hash 32 is.sized is.bytes)
    ∙ ap (λ text. decode_sized text 32) digits
    ∙ decode_sized-encode_lower other 32 other_is.sized other_is.bytes in
    cc

-- a release has another one's fingerprint exactly if it has its hash
has_hash-has_fingerprint :
    (given release : Release) → IsHash given.hash → IsHash release.hash →
    has_hash given.hash release ≡ has_fingerprint (fingerprint_of given) release
has_hash-has_fingerprint given release is release_is =
    same_from_decides _ _
    (Decides-like _ (λ same. ap fingerprint_with same) (λ same. same-fingerprint given.hash release.hash is release_is same)
    (bytes_eq-Decides given.hash release.hash))
    (bytes_eq-Decides (fingerprint_of given) (fingerprint_of release))

-- so the first one of that fingerprint is the first one of that hash
position_or_len-has_fingerprint :
    (given : Release) → IsHash given.hash → (cohorts : List Cohort) (releases : List Release) →
    list_all (is_valid_release cohorts) releases ≡ true →
    position_or_len (has_hash given.hash) releases ≡ position_or_len (has_fingerprint (fingerprint_of given)) releases
position_or_len-has_fingerprint given is cohorts [] good = refl
position_or_len-has_fingerprint given is cohorts (release ∷ releases) good =
    let parts = and_parts _ _ good in
    rw (
      has_hash-has_fingerprint given release is (IsHash-good cohorts release parts.0),
      position_or_len-has_fingerprint given is
          cohorts releases parts.1,
    ) refl

-- the release of a fingerprint is the one that has it
position-has_fingerprint :
    (app : App) (index : ℕ) (release : Release) → IsValidApp app → slice_get app.releases index ≡ Some release →
    position (has_fingerprint (fingerprint_of release)) app.releases ≡ Some index
position-has_fingerprint app index release valid there =
    let good = list_all-slice_get (is_valid_release app.cohorts) app.releases index release valid.releases_valid there in
    let agrees = position_or_len-has_fingerprint release (IsHash-good app.cohorts release good) app.cohorts app.releases
    valid.releases_valid in
    let own = λ (d : Release).
    ap (λ (r : Release). bytes_eq release.hash r.hash) (get_or_from_slice_get app.releases index release d there)
    ∙ (bytes_eq-Decides release.hash release.hash).1 refl in
    let found = position-once (has_hash release.hash) app.releases index (valid.hashes_once release.hash)
    (slice_get_within app.releases index release there) own in
    sym (ap (λ (k : ℕ). cond (ltb k (length app.releases)) (Some k) None) agrees) ∙ found

pub place_of-fingerprint :
    (app : App) (index : ℕ) (release : Release) (version : List ℕ) → IsValidApp app →
    slice_get app.releases index ≡ Some release →
    place_of app.releases (fingerprint_of release) version ≡ At index
place_of-fingerprint app index release version valid there =
    ap (λ (o : Option ℕ). option_map_or (λ (r : ℕ). At r) o (Outside (lenient_version_of version)))
    (position-has_fingerprint app index release valid there)
