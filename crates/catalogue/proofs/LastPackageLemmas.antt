-- A release or a differential that is added to the last app after all others of it.
use Rattle.std.proofs.Common.{◌≡◌, ℕ, true, false, List, [], ◌∷◌, ◌++◌, map, None, ap, sym, ◌∙◌, append_assoc}
use Rattle.std.specs.Map.{lookup}
use Rattle.std.specs.Str.{bytes_eq}
use Rattle.std.proofs.lemmas.Grind.{flat_map-append}
use Rattle.std.proofs.lemmas.List.{append-nil, map-append}
use Rattle.catalogue.specs.VersionLaws.{LenientAgrees}
use Rattle.catalogue.specs.Versions.{zero_version}
use Rattle.hex.specs.Hex.{encode_lower}
use Rattle.catalogue.proofs.ValidDiffLemmas.{ValidDiff}
use Rattle.catalogue.proofs.ValidReleaseLemmas.{ValidRelease}
use Rattle.catalogue.proofs.LastAppLemmas.{bytes_eq-same}
use Rattle.catalogue.proofs.EditSpellingLemmas.{hash_named-encode_lower, lenient_version_of-spells}
use Rattle.values.proofs.SplitLemmas.{list_any-before, lookup-nowhere}
use Rattle.catalogue.specs.Changes.{new_diff, new_release}
use Rattle.catalogue.specs.Contents.{spelling_of}
use Rattle.catalogue.specs.Lookups.{declared_of, diff_package, full_package, packages_in, packages_of}
use Rattle.catalogue.specs.Validity.{is_package, spells}
use Rattle.values.specs.Lists.{IsOnce}
use Rattle.catalogue.specs.declared.content.App.{App}
use Rattle.catalogue.specs.declared.content.Cohort.{Cohort}
use Rattle.values.specs.declared.declared.Declared.{Declared}
use Rattle.catalogue.specs.declared.content.Diff.{Diff}
use Rattle.catalogue.specs.declared.content.Release.{Release}
use Rattle.catalogue.specs.declared.edits.diffs.AddDiff.{AddDiff}
use Rattle.catalogue.specs.declared.edits.releases.AddRelease.{AddRelease}

-- a release as it is when it is added
abbrev pub bare_release : Release → Release
bare_release release =
    record release { stone = false; withdrawn = false; audience = None; floor = zero_version }

-- the edit that adds a release
abbrev pub added : List ℕ → Release → AddRelease
added id release =
    record { app = id; version = release.spelled; name = release.name; size = release.size; sha256 = encode_lower release.hash }

-- it adds that release at its first values
pub new_release-added :
    LenientAgrees → (id : List ℕ) (cohorts : List Cohort) (release : Release) → ValidRelease cohorts release →
    new_release (added id release) ≡ bare_release release
new_release-added agrees id cohorts release good =
    ap (λ (v : List ℕ). record (bare_release release) { version = v; hash = (new_release (added id release)).hash })
    (lenient_version_of-spells agrees release.spelled release.version good.spelled)
    ∙ ap (λ (h : List ℕ). record (bare_release release) { hash = h }) (hash_named-encode_lower release.hash good.hashed)

-- the edit that adds a differential between releases
abbrev pub added_diff : List ℕ → List Release → Diff → AddDiff
added_diff id releases diff =
    record {
      app = id;
      from = spelling_of releases diff.from;
      to = spelling_of releases diff.to;
      name = diff.name;
      size = diff.size;
      sha256 = encode_lower diff.hash;
    }

-- it adds that differential
pub new_diff-added :
    LenientAgrees → (id : List ℕ) (releases : List Release) (diff : Diff) → ValidDiff releases diff →
    spells (spelling_of releases diff.from) diff.from ≡ true →
    spells (spelling_of releases diff.to) diff.to ≡ true →
    new_diff (added_diff id releases diff) ≡ diff
new_diff-added agrees id releases diff good from_spelled to_spelled =
    let made = new_diff (added_diff id releases diff) in
    ap (λ (v : List ℕ). record diff { from = v; to = made.to; hash = made.hash })
    (lenient_version_of-spells agrees (spelling_of releases diff.from) diff.from from_spelled)
    ∙ ap (λ (v : List ℕ). record diff { to = v; hash = made.hash })
    (lenient_version_of-spells agrees (spelling_of releases diff.to) diff.to to_spelled)
    ∙ ap (λ (h : List ℕ). record diff { hash = h }) (hash_named-encode_lower diff.hash good.hashed)

-- the packages of a content are those before its last app and the last app's
packages_of-last :
    (front : List App) (app : App) → packages_of (front ++ app ∷ []) ≡ packages_of front ++ packages_in app
packages_of-last front app =
    flat_map-append packages_in front (app ∷ [])
    ∙ ap (λ ps. packages_of front ++ ps) (append-nil (packages_in app))

-- the packages of a content, cut at one of an app's
packages_of-cut :
    (front : List App) (app : App) (back : List App) (before : List (List ℕ × Declared)) (here : List ℕ × Declared) (after : List (List ℕ × Declared)) →
    packages_in app ≡ before ++ here ∷ after →
    packages_of (front ++ app ∷ back) ≡ (packages_of front ++ before) ++ here ∷ (after ++ packages_of back)
packages_of-cut front app back before here after inside =
    flat_map-append packages_in front (app ∷ back)
    ∙ ap (λ ps. packages_of front ++ (ps ++ packages_of back)) inside
    ∙ ap (λ ps. packages_of front ++ ps) (append_assoc before (here ∷ after) (packages_of back))
    ∙ sym (append_assoc (packages_of front) before (here ∷ (after ++ packages_of back)))

-- if each name is there once, that of a package is not declared by what comes before it
declared_of-cut :
    (front : List App) (app : App) (back : List App) (before : List (List ℕ × Declared)) (here : List ℕ × Declared) (after : List (List ℕ × Declared)) →
    packages_in app ≡ before ++ here ∷ after → IsOnce is_package (packages_of (front ++ app ∷ back)) →
    (partial : App) → packages_in partial ≡ before → declared_of (front ++ partial ∷ []) here.0 ≡ None
declared_of-cut front app back before here after inside once partial made =
    let earlier = packages_of front ++ before in
    let same = packages_of-cut front app back before here after inside in
    let fresh = list_any-before is_package earlier here _ (rw same at once) here.0 (bytes_eq-same here.0) in
    ap (λ (ps : List (List ℕ × Declared)). lookup (bytes_eq here.0) ps) (packages_of-last front partial ∙ ap (λ ps. packages_of front ++ ps) made)
    ∙ lookup-nowhere (bytes_eq here.0) earlier fresh

-- the name of a release is new while the app has the releases before it and no differentials
pub declared_of-release :
    (front : List App) (app : App) (back : List App) (below : List Release) (release : Release) (above : List Release) →
    app.releases ≡ below ++ release ∷ above → IsOnce is_package (packages_of (front ++ app ∷ back)) →
    (partial : App) → partial.releases ≡ below → partial.diffs ≡ [] →
    declared_of (front ++ partial ∷ []) release.name ≡ None
declared_of-release front app back below release above cut once partial made none =
    declared_of-cut front app back (map full_package below) (full_package release) (map full_package above ++ map diff_package app.diffs)
    (ap (λ rs. map full_package rs ++ map diff_package app.diffs) cut
    ∙ ap (λ ps. ps ++ map diff_package app.diffs) (map-append full_package below (release ∷ above))
    ∙ append_assoc (map full_package below) (full_package release ∷ map full_package above) (map diff_package app.diffs)) once partial
    (ap (λ ds. map full_package partial.releases ++ map diff_package ds) none
    ∙ append-nil (map full_package partial.releases)
    ∙ ap (map full_package) made)

-- and that of a differential while the app has its releases and the differentials before it
pub declared_of-diff :
    (front : List App) (app : App) (back : List App) (below : List Diff) (diff : Diff) (above : List Diff) →
    app.diffs ≡ below ++ diff ∷ above → IsOnce is_package (packages_of (front ++ app ∷ back)) →
    (partial : App) → partial.releases ≡ app.releases → partial.diffs ≡ below →
    declared_of (front ++ partial ∷ []) diff.name ≡ None
declared_of-diff front app back below diff above cut once partial same made =
    let full = map full_package app.releases in
    declared_of-cut front app back (full ++ map diff_package below) (diff_package diff) (map diff_package above)
    (ap (λ ds. full ++ map diff_package ds) cut
    ∙ ap (λ ps. full ++ ps) (map-append diff_package below (diff ∷ above))
    ∙ sym (append_assoc full (map diff_package below) (diff_package diff ∷ map diff_package above))) once partial
    (ap (λ ds. map full_package partial.releases ++ map diff_package ds) made
    ∙ ap (λ rs. map full_package rs ++ map diff_package below) same)
