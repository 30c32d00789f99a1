-- What a catalogue's content, the list of its apps, has under a name; this project's profile.
use Rattle.std.specs.Prelude.{ℕ, Bool, ◌&&◌, ◌||◌, List, [], ◌++◌, map, find, Option, slice_get}
use Rattle.std.specs.Option.{option_map_or}
use Rattle.std.specs.List.{flat_map, list_any}
use Rattle.std.specs.Map.{lookup}
use Rattle.std.specs.Str.{bytes_eq}
use Rattle.catalogue.specs.Versions.{is_below}
use Rattle.catalogue.specs.Forms.{same_id}
use Rattle.values.specs.Ordered.{place_in}
use Rattle.catalogue.specs.declared.content.App.{App}
use Rattle.catalogue.specs.declared.content.Cohort.{Cohort}
use Rattle.values.specs.declared.declared.Declared.{Declared}
use Rattle.catalogue.specs.declared.content.Diff.{Diff}
use Rattle.catalogue.specs.declared.content.Release.{Release}

-- the app has the identifier, in any case
abbrev pub is_app : List ℕ → App → Bool
is_app id app = same_id id app.id

-- rule: Release of a version
-- the release has the version
abbrev pub is_release : List ℕ → Release → Bool
is_release version release = bytes_eq version release.version

-- the release's full package has the hash
abbrev pub has_hash : List ℕ → Release → Bool
has_hash hash release = bytes_eq hash release.hash

-- the cohort has the name
abbrev pub is_cohort : List ℕ → Cohort → Bool
is_cohort name cohort = bytes_eq name cohort.name

-- there is a release of the version
abbrev pub has_release : List Release → List ℕ → Bool
has_release releases version = list_any (is_release version) releases

-- there is a cohort of the name
abbrev pub has_cohort : List Cohort → List ℕ → Bool
has_cohort cohorts name = list_any (is_cohort name) cohorts

-- the place of a version among releases by ascending version
abbrev pub place_of : List ℕ → List Release → ℕ
place_of version releases = place_in is_below (λ release. release.version) version releases

-- a differential's pair: the version that it starts at, and the one that it leads to
abbrev pub Pair : Type 0
Pair = List ℕ × List ℕ

abbrev pub pair_of : Diff → Pair
pair_of diff = (diff.from, diff.to)

-- pairs compare by the first version, then by the second
abbrev pub is_pair_below : Pair → Pair → Bool
is_pair_below lower upper =
    is_below lower.0 upper.0 || (bytes_eq lower.0 upper.0 && is_below lower.1 upper.1)

-- two pairs are equal
abbrev pub same_pair : Pair → Pair → Bool
same_pair left right = bytes_eq left.0 right.0 && bytes_eq left.1 right.1

-- rule: Differential of a pair
-- the differential has the pair
abbrev pub is_diff : Pair → Diff → Bool
is_diff pair diff = same_pair pair (pair_of diff)

-- there is a differential of the pair
abbrev pub has_diff : List Diff → Pair → Bool
has_diff diffs pair = list_any (is_diff pair) diffs

-- the place of a pair among differentials by ascending pair
abbrev pub place_of_pair : Pair → List Diff → ℕ
place_of_pair pair diffs = place_in is_pair_below pair_of pair diffs

-- the app of an identifier
abbrev pub app_of : List App → List ℕ → Option App
app_of apps id = find (is_app id) apps

-- the releases of the app of an identifier, none if there is no such app
abbrev pub releases_of : List App → List ℕ → List Release
releases_of apps id = option_map_or (λ app. app.releases) (app_of apps id) []

-- the cohorts of the app of an identifier, none if there is no such app
abbrev pub cohorts_of : List App → List ℕ → List Cohort
cohorts_of apps id = option_map_or (λ app. app.cohorts) (app_of apps id) []

-- the differentials of the app of an identifier, none if there is no such app
abbrev pub diffs_of : List App → List ℕ → List Diff
diffs_of apps id = option_map_or (λ app. app.diffs) (app_of apps id) []

-- the releases of the app at an index
abbrev pub releases_at : List App → ℕ → List Release
releases_at apps index = option_map_or (λ app. app.releases) (slice_get apps index) []

-- the cohorts of the app at an index
abbrev pub cohorts_at : List App → ℕ → List Cohort
cohorts_at apps index = option_map_or (λ app. app.cohorts) (slice_get apps index) []

-- the differentials of the app at an index
abbrev pub diffs_at : List App → ℕ → List Diff
diffs_at apps index = option_map_or (λ app. app.diffs) (slice_get apps index) []

-- a release's full package: its name with what is declared of it
abbrev pub full_package : Release → List ℕ × Declared
full_package release = (release.name, record { size = release.size; hash = release.hash })

-- a differential's package: its name with what is declared of it
abbrev pub diff_package : Diff → List ℕ × Declared
diff_package diff = (diff.name, record { size = diff.size; hash = diff.hash })

-- the packages of an app: the full ones, then the differential ones
abbrev pub packages_in : App → List (List ℕ × Declared)
packages_in app = map full_package app.releases ++ map diff_package app.diffs

-- the packages of all apps
abbrev pub packages_of : List App → List (List ℕ × Declared)
packages_of apps = flat_map packages_in apps

-- rule: Package of a name
-- what is declared of the package of a name
abbrev pub declared_of : List App → List ℕ → Option Declared
declared_of apps name = lookup (bytes_eq name) (packages_of apps)
