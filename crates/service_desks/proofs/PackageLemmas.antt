-- The names of packages are strings, so that nothing is declared of a name that is none.
use Rattle.std.proofs.Common.{◌≡◌, ℕ, zero, suc, ◌<◌, Bool, true, false, cond, not, ◌&&◌, List, [], ◌∷◌, ◌++◌, None, Some, refl, sym, ap, ◌∙◌, subst, IsUtf8, IsAscii, map, bytes_eq, slice_index, ◌==◌, arith, lit<}
use Rattle.std.specs.List.{AllByRecursion, list_all}
use Rattle.std.specs.Map.{lookup}
use Rattle.std.proofs.lemmas.Bool.{and_parts}
use Rattle.std.proofs.lemmas.Slice.Eq.{bytes_eq-Decides}
use Rattle.std.proofs.lemmas.Str.{IsUtf8-from_ascii}
use Rattle.catalogue.specs.Forms.{has_length, is_hash, is_package_byte, is_package_name, is_size}
use Rattle.catalogue.specs.Lookups.{declared_of, diff_package, full_package, packages_in, packages_of}
use Rattle.catalogue.specs.Validity.{IsValid, IsValidApp, is_valid_audience, is_valid_diff, is_valid_release}
use Rattle.catalogue.specs.declared.content.App.{App}
use Rattle.catalogue.specs.declared.content.Cohort.{Cohort}
use Rattle.values.specs.declared.declared.Declared.{Declared}
use Rattle.catalogue.specs.declared.content.Diff.{Diff}
use Rattle.catalogue.specs.declared.content.Release.{Release}

-- a package's byte is ASCII
is_package_byte-ascii : (byte : ℕ) → is_package_byte byte ≡ true → byte < 128
is_package_byte-ascii byte is = grind (arith, is)

all_ascii : (text : List ℕ) → list_all is_package_byte text ≡ true → IsAscii text
all_ascii [] all index = lit< tt
all_ascii (byte ∷ text) all zero = is_package_byte-ascii byte (and_parts (is_package_byte byte) (list_all is_package_byte text) all).0
all_ascii (byte ∷ text) all (suc index) = all_ascii text (and_parts (is_package_byte byte) (list_all is_package_byte text) all).1 index

-- a package's name is a string
IsUtf8-package_name : (name : List ℕ) → is_package_name name ≡ true → IsUtf8 name
IsUtf8-package_name name is =
    let front = (and_parts (has_length 1 128 name && list_all is_package_byte name) (not (slice_index name 0 == 46)) is).0 in
    IsUtf8-from_ascii name (all_ascii name (and_parts (has_length 1 128 name) (list_all is_package_byte name) front).1)

-- the names of the packages are strings
abbrev AreStrings : List (List ℕ × Declared) → Type 0
AreStrings packages = AllByRecursion (λ (entry : List ℕ × Declared). IsUtf8 entry.0) packages

AreStrings-append : (xs ys : List (List ℕ × Declared)) → AreStrings xs → AreStrings ys → AreStrings (xs ++ ys)
AreStrings-append [] ys one two = two
AreStrings-append (x ∷ xs) ys (here, one) two = (here, AreStrings-append xs ys one two)

AreStrings-releases : (cohorts : List Cohort) (releases : List Release) → list_all (is_valid_release cohorts) releases ≡ true → AreStrings (map full_package releases)
AreStrings-releases cohorts [] good = tt
AreStrings-releases cohorts (release ∷ releases) good =
    let parts = and_parts (is_valid_release cohorts release) (list_all (is_valid_release cohorts) releases) good in
    let sized = (and_parts _ (is_valid_audience cohorts release.audience) parts.0).0 in
    let hashed = (and_parts _ (is_hash release.hash) sized).0 in
    let named = (and_parts _ (is_size release.size) hashed).0 in
    (IsUtf8-package_name release.name (and_parts _ (is_package_name release.name) named).1, AreStrings-releases cohorts releases parts.1)

AreStrings-diffs : (releases : List Release) (diffs : List Diff) → list_all (is_valid_diff releases) diffs ≡ true → AreStrings (map diff_package diffs)
AreStrings-diffs releases [] good = tt
AreStrings-diffs releases (diff ∷ diffs) good =
    let parts = and_parts (is_valid_diff releases diff) (list_all (is_valid_diff releases) diffs) good in
    let hashed = (and_parts _ (is_hash diff.hash) parts.0).0 in
    let named = (and_parts _ (is_size diff.size) hashed).0 in
    (IsUtf8-package_name diff.name (and_parts _ (is_package_name diff.name) named).1, AreStrings-diffs releases diffs parts.1)

AreStrings-apps : (apps : List App) → AllByRecursion IsValidApp apps → AreStrings (packages_of apps)
AreStrings-apps [] valid = tt
AreStrings-apps (app ∷ apps) (here, valid) =
    AreStrings-append (packages_in app) (packages_of apps)
    (AreStrings-append (map full_package app.releases) (map diff_package app.diffs)
    (AreStrings-releases app.cohorts app.releases here.releases_valid) (AreStrings-diffs app.releases app.diffs here.diffs_valid))
    (AreStrings-apps apps valid)

false_unless : (b : Bool) → (b ≡ true → ⊥) → b ≡ false
false_unless true never = absurd (never refl)
false_unless false never = refl

lookup-no_string : (name : List ℕ) (packages : List (List ℕ × Declared)) → ¬ (IsUtf8 name) → AreStrings packages → lookup (bytes_eq name) packages ≡ None
lookup-no_string name [] no_string strings = refl
lookup-no_string name (entry ∷ entries) no_string (here, strings) =
    let other = false_unless (bytes_eq name entry.0) (λ same. no_string (subst IsUtf8 (sym ((bytes_eq-Decides name entry.0).0 same)) here)) in
    ap (λ b. cond b (Some entry.1) (lookup (bytes_eq name) entries)) other ∙ lookup-no_string name entries no_string strings

-- nothing is declared of a name that is no string
pub declared_of-no_string : (apps : List App) (name : List ℕ) → IsValid apps → ¬ (IsUtf8 name) → None ≡ declared_of apps name
declared_of-no_string apps name valid no_string =
    sym (lookup-no_string name (packages_of apps) no_string (AreStrings-apps apps valid.apps_valid))
