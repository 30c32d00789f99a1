-- The graphs of a valid content's tracks.
use Rattle.std.proofs.Common.{◌≡◌, ℕ, ◌<◌, ◌&&◌, true, List, [], length, get_or, ltb, Option, None, Some, refl, sym, ap, ◌∙◌, subst, arith}
use Rattle.std.specs.List.{position, position_or_len, slice_get}
use Rattle.std.specs.Option.{option_and_then, option_map, option_map_or}
use Rattle.std.proofs.lemmas.Bool.{and_parts, ltb-true}
use Rattle.std.proofs.lemmas.List.Elements.{All-from_recursion}
use Rattle.std.proofs.lemmas.Option.{cond_some, get_or_from_slice_get, slice_get-get_or, slice_get_within}
use Rattle.catalogue.specs.VersionLaws.{BelowIsIrreflexive, BelowIsTransitive}
use Rattle.catalogue.specs.Forms.{is_hash, is_package_name, is_size}
use Rattle.catalogue.specs.Lookups.{is_release}
use Rattle.catalogue.specs.Validity.{IsValid, IsValidApp, is_valid_audience, is_valid_release, spells}
use Rattle.catalogue.specs.declared.content.App.{App}
use Rattle.catalogue.specs.declared.content.Cohort.{Cohort}
use Rattle.catalogue.specs.declared.content.Release.{Release}
use Rattle.cohorts.specs.Offers.{track_target}
use Rattle.payload_graph.specs.Chains.{cohort_target}
use Rattle.payload_graph.specs.declared.payload.TrackKey.{TrackKey}
use Rattle.payload_graph.proofs.DifferLemmas.{net_from-app}
use Rattle.payload_graph.proofs.OrderLemmas.{list_all-get_or}
use Rattle.payload_graph.proofs.WalkLemmas.{AreValid}
use Rattle.payload_graph.specs.Net.{Net, net_among, net_in, net_of, resolved_at, resolved_of}
use Rattle.payload_graph.specs.Soundness.{AreBounded, net_from, net_in_app, net_in_cohort}

-- an app of a valid content has valid differentials
pub AreValid-app :
    (apps : List App) (index : ℕ) (app : App) →
    IsValid apps → slice_get apps index ≡ Some app → AreValid app.releases app.diffs
AreValid-app apps index app valid there =
    let within = slice_get_within apps index app there in
    let own = subst IsValidApp (get_or_from_slice_get apps index app app there) (All-from_recursion IsValidApp apps valid.apps_valid index app within) in
    record { rises = own.releases_ascend; sorted = own.diffs_ascend; good = own.diffs_valid }

-- it has few releases, of valid sizes
pub AreBounded-app :
    (apps : List App) (index : ℕ) (app : App) →
    IsValid apps → slice_get apps index ≡ Some app → AreBounded app.releases
AreBounded-app apps index app valid there =
    let within = slice_get_within apps index app there in
    let own = subst IsValidApp (get_or_from_slice_get apps index app app there) (All-from_recursion IsValidApp apps valid.apps_valid index app within) in
    record {
      few = own.few_releases;
      sized = λ k d inside.
          sized-release app.cohorts (get_or app.releases k d) (list_all-get_or (is_valid_release app.cohorts) app.releases k d own.releases_valid inside);
    }
  where
    sized-release : (cohorts : List Cohort) (release : Release) → is_valid_release cohorts release ≡ true → is_size release.size ≡ true
    sized-release cohorts release good =
        let audience = and_parts (spells release.spelled release.version && is_package_name release.name && is_size release.size && is_hash release.hash) (is_valid_audience cohorts release.audience) good in
        let hashed = and_parts (spells release.spelled release.version && is_package_name release.name && is_size release.size) (is_hash release.hash) audience.0 in
        (and_parts (spells release.spelled release.version && is_package_name release.name) (is_size release.size) hashed.0).1

-- a target is a release
target-within :
    (app : App) (cohort : Cohort) (key : TrackKey) (target : ℕ) →
    cohort_target app cohort key ≡ Some target → target < length app.releases
target-within app cohort key target found = cases (track_target app.releases cohort key.lane key.pin) found
  where
    cases : (sought : Option (List ℕ)) → option_and_then (λ version. position (is_release version) app.releases) sought ≡ Some target → target < length app.releases
    cases None found = cc
    cases (Some version) found =
        let parts = cond_some (ltb (position_or_len (is_release version) app.releases) (length app.releases)) (position_or_len (is_release version) app.releases) target found in
        let within = ltb-true (position_or_len (is_release version) app.releases) (length app.releases) parts.0 in
        let same = parts.1 in
        omega arith

-- with the app's own differentials, the graph is the track's
pub net_in_app-own :
    BelowIsIrreflexive → BelowIsTransitive → (app : App) (key : TrackKey) →
    AreValid app.releases app.diffs → net_in_app app key (resolved_of app) ≡ net_in app key
net_in_app-own irreflexive transitive app key are = cases (slice_get app.cohorts key.cohort)
  where
    own :
        (cohort : Cohort) (found : Option ℕ) → cohort_target app cohort key ≡ found →
        option_map (λ target. net_from key cohort app.releases target (resolved_of app)) found
        ≡ option_map (net_of app key cohort) found
    own cohort None found = refl
    own cohort (Some target) found =
        ap (λ (net : Net). Some net) (net_from-app irreflexive transitive app are cohort key target (target-within app cohort key target found))

    cases :
        (found : Option Cohort) →
        option_and_then (λ cohort. net_in_cohort app key cohort (resolved_of app)) found
        ≡ option_and_then (λ cohort. option_map (net_of app key cohort) (cohort_target app cohort key)) found
    cases None = refl
    cases (Some cohort) = own cohort (cohort_target app cohort key) refl

-- an app that is read at an index is there
pub app-there :
    (apps : List App) (index : ℕ) (app : App) →
    index < length apps → app ≡ get_or apps index app → slice_get apps index ≡ Some app
app-there apps index app within item = slice_get-get_or apps index app within ∙ ap (λ (a : App). Some a) (sym item)

-- the differentials at the index of an app are its own
pub resolved_at-there :
    (apps : List App) (index : ℕ) (app : App) →
    slice_get apps index ≡ Some app → resolved_at apps index ≡ resolved_of app
resolved_at-there apps index app there = ap (λ found. option_map_or resolved_of found []) there

-- the graph among all apps is that of the app
pub net_among-there :
    (apps : List App) (key : TrackKey) (app : App) →
    slice_get apps key.app ≡ Some app → net_among apps key ≡ net_in app key
net_among-there apps key app there = ap (λ found. option_and_then (λ a. net_in a key) found) there
