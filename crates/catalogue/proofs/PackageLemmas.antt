-- The packages of a content after an edit.
use Rattle.std.proofs.Common.{◌≡◌, ℕ, cond, List, ◌++◌, map, Option, Some, None, ap, sym, ◌∙◌}
use Rattle.std.specs.Map.{lookup}
use Rattle.std.specs.Str.{bytes_eq}
use Rattle.values.proofs.ChangedLemmas.{map-change}
use Rattle.catalogue.proofs.ValidReleaseLemmas.{full_package-with_release_setting}
use Rattle.values.proofs.InsertionLemmas.{Inserts, Inserts-append_after, Inserts-append_before, Inserts-flat_map_change, Inserts-insert, Inserts-map, flat_map-change, lookup-Inserts}
use Rattle.catalogue.proofs.Accepted.Diffs.{TakesDiff-from_no_fault}
use Rattle.catalogue.proofs.Accepted.Releases.{TakesRelease-from_no_fault}
use Rattle.catalogue.specs.Changes.{in_release, new_diff, new_release, placed, placed_diff, with_diff, with_release, with_release_setting}
use Rattle.values.specs.Lists.{change}
use Rattle.catalogue.specs.Draft.{Indexes}
use Rattle.catalogue.specs.Faults.{first_fault}
use Rattle.catalogue.specs.PackageIndex.{found_in}
use Rattle.catalogue.specs.declared.content.Diff.{Diff}
use Rattle.catalogue.specs.declared.edits.diffs.AddDiff.{AddDiff}
use Rattle.catalogue.specs.declared.edits.release_settings.ReleaseSetting.{ReleaseSetting}
use Rattle.catalogue.specs.declared.edits.releases.AddRelease.{AddRelease}
use Rattle.catalogue.specs.declared.package_index.PackageIndex.{PackageIndex}
use Rattle.catalogue.specs.Lookups.{app_of, declared_of, diff_package, full_package, is_app, is_release, packages_in, packages_of, pair_of, place_of, place_of_pair}
use Rattle.catalogue.specs.declared.content.App.{App}
use Rattle.values.specs.declared.declared.Declared.{Declared}
use Rattle.catalogue.specs.declared.content.Release.{Release}
use Rattle.catalogue.specs.Edits.Diffs.{tests_of_add_diff}
use Rattle.catalogue.specs.Edits.Releases.{tests_of_add_release}

-- a release that is added to an app adds its full package
pub Inserts-packages_of :
    (apps : List App) (id : List ℕ) (release : Release) (app : App) →
    app_of apps id ≡ Some app →
    Inserts (full_package release) (packages_of apps) (packages_of (change (is_app id) (with_release release) apps))
Inserts-packages_of apps id release app found =
    let among : Inserts release app.releases (placed release app.releases) = Inserts-insert app.releases (place_of release.version app.releases) release in
    Inserts-flat_map_change (is_app id) (with_release release) packages_in (full_package release) apps app found
    (Inserts-append_after (full_package release) (map full_package app.releases) (map full_package (placed release app.releases)) (map diff_package app.diffs)
    (Inserts-map full_package release app.releases (placed release app.releases) among))

-- and a differential its own
pub Inserts-packages_of-diff :
    (apps : List App) (id : List ℕ) (diff : Diff) (app : App) → app_of apps id ≡ Some app →
    Inserts (diff_package diff) (packages_of apps) (packages_of (change (is_app id) (with_diff diff) apps))
Inserts-packages_of-diff apps id diff app found =
    let among : Inserts diff app.diffs (placed_diff diff app.diffs) = Inserts-insert app.diffs (place_of_pair (pair_of diff) app.diffs) diff in
    Inserts-flat_map_change (is_app id) (with_diff diff) packages_in (diff_package diff) apps app found
    (Inserts-append_before (diff_package diff) (map diff_package app.diffs) (map diff_package (placed_diff diff app.diffs)) (map full_package app.releases)
    (Inserts-map diff_package diff app.diffs (placed_diff diff app.diffs) among))

-- under its name it is found, and under any other what was found before
pub declared_of-with_release :
    (apps : List App) (id : List ℕ) (release : Release) (app : App) →
    app_of apps id ≡ Some app →
    declared_of apps release.name ≡ None →
    (name : List ℕ) →
    declared_of (change (is_app id) (with_release release) apps) name ≡ cond (bytes_eq release.name name) (Some (full_package release).1) (declared_of apps name)
declared_of-with_release apps id release app found fresh =
    lookup-Inserts release.name (full_package release).1 (packages_of apps) _ (Inserts-packages_of apps id release app found) fresh

-- a change of an app that keeps its packages keeps what is declared under each name
pub declared_of-kept :
    (id : List ℕ) (f : App → App) →
    ((app : App) → packages_in (f app) ≡ packages_in app) →
    (apps : List App) (name : List ℕ) →
    declared_of (change (is_app id) f apps) name ≡ declared_of apps name
declared_of-kept id f same apps name =
    ap (λ (packages : List (List ℕ × Declared)). lookup (bytes_eq name) packages) (flat_map-change (is_app id) f packages_in same apps)

-- and so does what is set of a release
pub packages_in-in_release :
    (version : List ℕ) (new : ReleaseSetting) (app : App) →
    packages_in (in_release version (with_release_setting new) app) ≡ packages_in app
packages_in-in_release version new app =
    ap (λ ps. ps ++ map diff_package app.diffs)
    (map-change (is_release version) (with_release_setting new) full_package (full_package-with_release_setting new) app.releases)

pub declared_of-kept_in_release :
    (id version : List ℕ) (new : ReleaseSetting) (apps : List App) (name : List ℕ) →
    declared_of (change (is_app id) (in_release version (with_release_setting new)) apps) name ≡ declared_of apps name
declared_of-kept_in_release id version new apps name =
    declared_of-kept id (in_release version (with_release_setting new)) (packages_in-in_release version new) apps name

-- an index that takes an accepted release's package is the index of the content with the release
pub Indexes-with_release :
    (old new : PackageIndex) (apps : List App) (e : AddRelease) (name : List ℕ) (release : Release) →
    Indexes old apps →
    first_fault (tests_of_add_release apps e) ≡ None →
    release ≡ new_release e →
    name ≡ e.name →
    ((other : List ℕ) → found_in new other ≡ cond (bytes_eq name other) (Some (full_package release).1) (found_in old other)) →
    Indexes new (change (is_app e.app) (with_release (new_release e)) apps)
Indexes-with_release old new apps e name release indexed accepted made named found other =
    let takes = TakesRelease-from_no_fault apps e accepted in
    found other
    ∙ ap (λ (n : List ℕ). cond (bytes_eq n other) (Some (full_package release).1) (found_in old other)) named
    ∙ ap (λ (r : Release). cond (bytes_eq e.name other) (Some (full_package r).1) (found_in old other)) made
    ∙ ap (λ (o : Option Declared). cond (bytes_eq e.name other) (Some (full_package (new_release e)).1) o) (indexed other)
    ∙ sym (declared_of-with_release apps e.app (new_release e) takes.app takes.found takes.new_name other)

-- and so of a differential's
pub Indexes-with_diff :
    (old new : PackageIndex) (apps : List App) (e : AddDiff) (name : List ℕ) (diff : Diff) →
    Indexes old apps → first_fault (tests_of_add_diff apps e) ≡ None → diff ≡ new_diff e → name ≡ e.name →
    ((other : List ℕ) → found_in new other ≡ cond (bytes_eq name other) (Some (diff_package diff).1) (found_in old other)) →
    Indexes new (change (is_app e.app) (with_diff (new_diff e)) apps)
Indexes-with_diff old new apps e name diff indexed accepted made named found other =
    let takes = TakesDiff-from_no_fault apps e accepted in
    let added = diff_package (new_diff e) in
    found other
    ∙ ap (λ (n : List ℕ). cond (bytes_eq n other) (Some (diff_package diff).1) (found_in old other)) named
    ∙ ap (λ (d : Diff). cond (bytes_eq e.name other) (Some (diff_package d).1) (found_in old other)) made
    ∙ ap (λ (o : Option Declared). cond (bytes_eq e.name other) (Some added.1) o) (indexed other)
    ∙ sym (lookup-Inserts e.name added.1 (packages_of apps) _ (Inserts-packages_of-diff apps e.app (new_diff e) takes.app takes.found) takes.new_name other)
