-- A client's place among the releases of an app: at one of them, or outside of all at some version;
-- this project's profile of the member `fp`.
use Rattle.std.specs.Prelude.{◌≡◌, ℕ, ◌<◌, ⊤, Bool, List, ◌++◌, codes, length, option_map, position, slice_get, Option, None, Some}
use Rattle.std.specs.Option.{option_map_or}
use Rattle.std.specs.Str.{bytes_eq}
use Rattle.hex.specs.Hex.{encode_lower, IsBytes}
use Rattle.catalogue.specs.Versions.{lenient_version_of}
use Rattle.catalogue.specs.declared.content.Release.{Release}
use Rattle.payload_graph.specs.declared.place.Place.{Place}
use Rattle.payload_graph.specs.declared.place.Place.TheVariants.{At, Outside}

-- the fingerprint of a hash: `1.` and the hash in lower-case hexadecimal digits
abbrev pub fingerprint_with : List ℕ → List ℕ
fingerprint_with hash = codes "1." ++ encode_lower hash

-- a release's fingerprint: that of the hash of its full package
abbrev pub fingerprint_of : Release → List ℕ
fingerprint_of release = fingerprint_with release.hash

-- the release has the fingerprint
abbrev pub has_fingerprint : List ℕ → Release → Bool
has_fingerprint fp release = bytes_eq fp (fingerprint_of release)

-- the string is the fingerprint of that hash of 32 bytes; without one, of no hash
abbrev pub IsHashOf : List ℕ → Option (List ℕ) → Type 0
IsHashOf fp None = (hash : List ℕ) → length hash ≡ 32 → IsBytes hash → ¬ (fp ≡ fingerprint_with hash)
IsHashOf fp (Some hash) = (fp ≡ fingerprint_with hash) × IsBytes hash

-- rule: Place of a client
-- a client's place: at the release whose fingerprint it sent, whatever its version; else outside, at
-- the version that its string counts as
abbrev pub place_of : List Release → List ℕ → List ℕ → Place
place_of releases fp version =
    option_map_or (λ release. At release) (position (has_fingerprint fp) releases)
    (Outside (lenient_version_of version))

-- a place's version: the release's, none if there is no such release, or the client's
abbrev pub version_at : List Release → Place → Option (List ℕ)
version_at releases (At release) = option_map (λ there. there.version) (slice_get releases release)
version_at releases (Outside version) = Some version

-- a place at a release is at one of these
abbrev pub IsWithin : List Release → Place → Type 0
IsWithin releases (At release) = release < length releases
IsWithin releases (Outside version) = ⊤
