-- What is true of every content that edits make; this project's profile. Crates above rest on it.
use Rattle.std.specs.Prelude.{◌≡◌, ℕ, ◌≤◌, ◌&&◌, Bool, true, false, nat_le, List, length, Option, None, Some}
use Rattle.std.specs.List.{AllByRecursion, list_all}
use Rattle.std.specs.Option.{option_map_or}
use Rattle.std.specs.Str.{bytes_eq}
use Rattle.catalogue.specs.Versions.{is_below, printed, version_of}
use Rattle.catalogue.specs.Forms.{is_app_id, is_cohort_name, is_hash, is_package_name, is_size}
use Rattle.catalogue.specs.Limits.{max_apps, max_cohorts, max_diffs, max_releases, max_share}
use Rattle.catalogue.specs.Lookups.{has_cohort, has_hash, has_release, is_app, is_cohort, is_pair_below, packages_of, pair_of}
use Rattle.values.specs.Lists.{IsOnce}
use Rattle.values.specs.Ordered.{ascend}
use Rattle.catalogue.specs.declared.content.App.{App}
use Rattle.catalogue.specs.declared.content.Cohort.{Cohort}
use Rattle.values.specs.declared.declared.Declared.{Declared}
use Rattle.catalogue.specs.declared.content.Diff.{Diff}
use Rattle.catalogue.specs.declared.content.Release.{Release}

-- the package has the name
abbrev pub is_package : List ℕ → List ℕ × Declared → Bool
is_package name named = bytes_eq name named.0

-- a release is below another by version
abbrev pub is_release_below : Release → Release → Bool
is_release_below lower upper = is_below lower.version upper.version

-- a differential comes before another: by the release that it starts at, then by the other
abbrev pub is_diff_before : Diff → Diff → Bool
is_diff_before first second = is_pair_below (pair_of first) (pair_of second)

-- the string spells the version
abbrev pub spells : List ℕ → List ℕ → Bool
spells text version = option_map_or (λ read. bytes_eq read.0 version) (version_of text) false

-- there is a release of the version, if one is given
abbrev pub is_released : List Release → Option (List ℕ) → Bool
is_released releases None = true
is_released releases (Some version) = has_release releases version

-- a cohort: its name, its share, and that its targets are released
abbrev pub is_valid_cohort : List Release → Cohort → Bool
is_valid_cohort releases cohort =
    is_cohort_name cohort.name
    && nat_le cohort.share max_share
    && is_released releases cohort.target
    && is_released releases cohort.held

-- each name of an audience is that of a cohort, if there is an audience
abbrev pub is_valid_audience : List Cohort → Option (List (List ℕ)) → Bool
is_valid_audience cohorts None = true
is_valid_audience cohorts (Some names) = list_all (has_cohort cohorts) names

-- a release: its spelling, its package's name, bytes and hash, and its audience
abbrev pub is_valid_release : List Cohort → Release → Bool
is_valid_release cohorts release =
    spells release.spelled release.version
    && is_package_name release.name
    && is_size release.size
    && is_hash release.hash
    && is_valid_audience cohorts release.audience

-- a release's floor is one that an edit can set again: printed, it is a string that spells it
abbrev pub has_valid_floor : Release → Bool
has_valid_floor release = spells (printed release.floor) release.floor

-- a differential: upward between releases, its package's name, bytes and hash
abbrev pub is_valid_diff : List Release → Diff → Bool
is_valid_diff releases diff =
    is_below diff.from diff.to
    && has_release releases diff.from
    && has_release releases diff.to
    && is_package_name diff.name
    && is_size diff.size
    && is_hash diff.hash

-- an app
pub record IsValidApp (app : App) : Type 0 where
  pub identified : is_app_id app.id ≡ true
  pub some_cohort : 1 ≤ length app.cohorts
  pub few_cohorts : length app.cohorts ≤ max_cohorts
  pub cohorts_once : IsOnce is_cohort app.cohorts
  pub cohorts_valid : list_all (is_valid_cohort app.releases) app.cohorts ≡ true
  pub few_releases : length app.releases ≤ max_releases
  pub releases_ascend : ascend is_release_below app.releases ≡ true
  pub hashes_once : IsOnce has_hash app.releases
  pub releases_valid : list_all (is_valid_release app.cohorts) app.releases ≡ true
  pub floors_valid : list_all has_valid_floor app.releases ≡ true
  pub few_diffs : length app.diffs ≤ max_diffs
  pub diffs_ascend : ascend is_diff_before app.diffs ≡ true
  pub diffs_valid : list_all (is_valid_diff app.releases) app.diffs ≡ true

-- a content
pub record IsValid (apps : List App) : Type 0 where
  pub few_apps : length apps ≤ max_apps
  pub ids_once : IsOnce is_app apps
  pub names_once : IsOnce is_package (packages_of apps)
  pub apps_valid : AllByRecursion IsValidApp apps
