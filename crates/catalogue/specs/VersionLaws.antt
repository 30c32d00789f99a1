-- What holds of all versions, and of all strings.
use Rattle.std.specs.Prelude.{◌≡◌, ℕ, ◌^◌, ◌<◌, All, List, length, Some, true, false}
use Rattle.catalogue.specs.Versions.{is_below, lenient_version_of, printed, shown_components, version_of}

-- no version is below itself
abbrev pub BelowIsIrreflexive : Type 0
BelowIsIrreflexive = (version : List ℕ) → is_below version version ≡ false

-- what is below a version is below all that this version is below
abbrev pub BelowIsTransitive : Type 0
BelowIsTransitive =
    (low middle high : List ℕ) →
    is_below low middle ≡ true → is_below middle high ≡ true → is_below low high ≡ true

-- of two versions that differ, one is below the other
abbrev pub BelowIsTotal : Type 0
BelowIsTotal =
    (left right : List ℕ) → is_below left right ≡ false → is_below right left ≡ false → left ≡ right

-- a string that a publisher may write counts as the same version when a client sends it
abbrev pub LenientAgrees : Type 0
LenientAgrees =
    (text version : List ℕ) (written : ℕ) →
    version_of text ≡ Some (version, written) → lenient_version_of text ≡ version

-- a version's string counts as the version
abbrev pub PrintReadsBack : Type 0
PrintReadsBack =
    (version : List ℕ) →
    length version ≡ 16 → All (λ number. number < 2 ^ 32) version →
    lenient_version_of (printed version) ≡ version

-- a version that a publisher's string spells prints as such a string of the same version
abbrev pub PrintIsPlain : Type 0
PrintIsPlain =
    (text version : List ℕ) (written : ℕ) →
    version_of text ≡ Some (version, written) →
    version_of (printed version) ≡ Some (version, length (shown_components version))
