-- The graph of a track of a valid app is one: its target and its releases are those of the app, and each of its
-- differentials leads up to at most the target.
use Rattle.std.proofs.Common.{◌≡◌, ℕ, ◌+◌, ◌<◌, inl, inr, ◌&&◌, not, Bool, true, false, List, [], ◌∷◌, length, get_or, map, Option, None, Some, refl, sym, ap, ◌∙◌, subst, arith}
use Rattle.std.specs.List.{All, AllByRecursion, enumerate_from, filter, find, list_all, list_any, position, slice_get}
use Rattle.std.specs.Option.{option_map, option_map_or}
use Rattle.std.proofs.lemmas.Bool.{and_parts, cond_both, false≢true, not-true, or_cases}
use Rattle.std.proofs.lemmas.List.{get_or-map, length-map}
use Rattle.std.proofs.lemmas.List.Elements.{All-from_recursion}
use Rattle.std.proofs.lemmas.List.FromFn.{get_or-enumerate_from, length-enumerate_from}
use Rattle.std.proofs.lemmas.List.Sums.{AllPass-from_list_all}
use Rattle.std.proofs.lemmas.Option.{option_and_then_some, slice_get_within}
use Rattle.std.proofs.lemmas.Slice.Eq.{bytes_eq-Decides}
use Rattle.catalogue.specs.VersionLaws.{BelowIsIrreflexive, BelowIsTransitive}
use Rattle.catalogue.specs.Versions.{is_below}
use Rattle.catalogue.specs.Forms.{is_hash, is_package_name, is_size}
use Rattle.catalogue.specs.Lookups.{has_release, is_release}
use Rattle.catalogue.specs.Validity.{IsValidApp, is_valid_audience, is_valid_diff, is_valid_release, spells}
use Rattle.catalogue.specs.declared.content.App.{App}
use Rattle.catalogue.specs.declared.content.Cohort.{Cohort}
use Rattle.catalogue.specs.declared.content.Diff.{Diff}
use Rattle.catalogue.specs.declared.content.Release.{Release}
use Rattle.cohorts.specs.Offers.{track_target}
use Rattle.cohorts.specs.declared.pin.Pin.{Pin}
use Rattle.payload_graph.specs.Chains.{cohort_target, index_of}
use Rattle.payload_graph.specs.Net.{Net, differs_of, door_of, doors_of, edge_of, net_in, net_of, version_of_index}
use Rattle.payload_graph.specs.Permitted.{end_of, is_offered_at, jumps_stone, leads_up, permits_differ}
use Rattle.payload_graph.specs.Soundness.{AreNumbered, IsNearing, no_door}
use Rattle.payload_graph.specs.declared.door.Door.{Door}
use Rattle.payload_graph.specs.declared.edge.Edge.{Edge}
use Rattle.payload_graph.specs.declared.payload.TrackKey.{TrackKey}
use Rattle.price_cert.specs.Laws.{IsGraph}
use Rattle.theorems.proofs.ItemLemmas.{Passes, Passes-option_map_or, find-position, position-Passes}
use Rattle.theorems.proofs.OrderLemmas.{index-below, index-not_below}
use Rattle.theorems.specs.Laws.{TrackGraphsAreGraphs}

-- what the graph of a track is made of
record HasGraph (app : App) (key : TrackKey) (net : Net) : Type 0 where
  cohort : Cohort
  target : ℕ
  targeted : cohort_target app cohort key ≡ Some target
  is : net_of app key cohort target ≡ net

HasGraph-net_in : (app : App) (key : TrackKey) (net : Net) → net_in app key ≡ Some net → HasGraph app key net
HasGraph-net_in app key net made =
    option_and_then_some (λ (cohort : Cohort). option_map (net_of app key cohort) (cohort_target app cohort key))
    (slice_get app.cohorts key.cohort) net made
    (λ cohort there in_cohort. by_target cohort (cohort_target app cohort key) refl in_cohort)
  where
    by_target :
        (cohort : Cohort) (target : Option ℕ) → cohort_target app cohort key ≡ target →
        option_map (net_of app key cohort) target ≡ Some net → HasGraph app key net
    by_target cohort None targeted made = cc
    by_target cohort (Some target) targeted made =
        let same : net_of app key cohort target ≡ net = cc in
        record { cohort = cohort; target = target; targeted = targeted; is = same }

-- the release at a target
target-there :
    (app : App) (cohort : Cohort) (key : TrackKey) (target : ℕ) →
    cohort_target app cohort key ≡ Some target → Passes (λ (release : Release). true) (slice_get app.releases target)
target-there app cohort key target targeted =
    option_and_then_some (λ (version : List ℕ). position (is_release version) app.releases)
    (track_target app.releases cohort key.lane key.pin) target targeted
    (λ version sought found.
    let at = position-Passes (is_release version) app.releases target found in
    record { item = at.item; is = at.is; passed = refl })

-- a list with an index has an item
an_item : {A : Type 0} (items : List A) (index : ℕ) → index < length items → A
an_item [] index within = absurd (omega arith)
an_item (item ∷ items) index within = item

-- the doors of releases, by index
module _ (cohort : Cohort) (pin : Pin) (releases : List Release) where
  doors-length : length (doors_of cohort pin releases) ≡ length releases
  doors-length =
      length-map (enumerate_from 0 releases)
      (λ (numbered : ℕ × Release). door_of cohort pin releases numbered.0 numbered.1)
      ∙ length-enumerate_from 0 releases

  door-at :
      (index : ℕ) (d : Door) (release : Release) → index < length releases →
      get_or (doors_of cohort pin releases) index d ≡ door_of cohort pin releases index (get_or releases index release)
  door-at index d release within =
      let sized = length-enumerate_from 0 releases in
      let own : 0 + index ≡ index = omega arith in
      get_or-map (λ (numbered : ℕ × Release). door_of cohort pin releases numbered.0 numbered.1)
      (enumerate_from 0 releases) index
      (index, release) d (omega arith)
      ∙ ap (λ (numbered : ℕ × Release). door_of cohort pin releases numbered.0 numbered.1)
      (get_or-enumerate_from 0 releases index (index, release) within)
      ∙ ap (λ n. door_of cohort pin releases n (get_or releases index release)) own

  doors-numbered : AreNumbered (doors_of cohort pin releases)
  doors-numbered index within =
      let count = doors-length in
      let there : index < length releases = omega arith in
      ap (λ (door : Door). door.to) (door-at index no_door (an_item releases index there) there)

  doors-sized :
      (cohorts : List Cohort) → list_all (is_valid_release cohorts) releases ≡ true →
      All (λ (door : Door). is_size door.bytes ≡ true) (doors_of cohort pin releases)
  doors-sized cohorts valid index d within =
      let count = doors-length in
      let there : index < length releases = omega arith in
      let default = an_item releases index there in
      let release = get_or releases index default in
      let good = AllPass-from_list_all (is_valid_release cohorts) releases valid index default there in
      let hashed = (and_parts
      (spells release.spelled release.version && is_package_name release.name && is_size release.size && is_hash
      release.hash)
      (is_valid_audience cohorts release.audience) good).0 in
      let sized = (and_parts
      (spells release.spelled release.version && is_package_name release.name && is_size release.size)
      (is_hash release.hash) hashed).0 in
      ap (λ (door : Door). is_size door.bytes) (door-at index d default there)
      ∙ (and_parts (spells release.spelled release.version && is_package_name release.name) (is_size release.size)
      sized).1

-- what a valid differential is between, and its bytes
record IsGoodDiff (releases : List Release) (diff : Diff) : Type 0 where
  start : has_release releases diff.from ≡ true
  sized : is_size diff.size ≡ true

IsGoodDiff-valid : (releases : List Release) (diff : Diff) → is_valid_diff releases diff ≡ true → IsGoodDiff releases
    diff
IsGoodDiff-valid releases diff valid =
    let below = is_below diff.from diff.to in
    let start = has_release releases diff.from in
    let end = has_release releases diff.to in
    let name = is_package_name diff.name in
    let size = is_size diff.size in
    let sized = (and_parts (below && start && end && name && size) (is_hash diff.hash) valid).0 in
    let named = and_parts (below && start && end && name) size sized in
    let ends = (and_parts (below && start && end) name named.0).0 in
    record { start = (and_parts below start (and_parts (below && start) end ends).0).1; sized = named.1 }

-- a version that a release has is found where the first such release is
find-any : {A : Type 0} (test : A → Bool) (items : List A) → list_any test items ≡ true → Passes test (find test items)
find-any test [] any = cc
find-any {A} test (first ∷ items) any =
    let rest = find-any test items in
    cond_both (test first) (Some first) (find test items) (λ (o : Option A). Passes test o)
    (λ passed. record { item = first; is = refl; passed = passed })
    (λ failed. elim (or_cases (test first) (list_any test items) any) [
      | inl passed ↦ absurd (false≢true (sym failed ∙ passed))
      | inr later ↦ rest later
    ])

module _ (irreflexive : BelowIsIrreflexive) (transitive : BelowIsTransitive) (app : App) (cohort : Cohort)
    (key : TrackKey)
    (target : ℕ) (valid : IsValidApp app)
    (goal : Passes (λ (release : Release). true) (slice_get app.releases target)) where
  -- a permitted differential leads nearer the target
  diff-nearing :
      (diff : Diff) → IsGoodDiff app.releases diff →
      permits_differ app.releases cohort key.pin (version_of_index app.releases target) diff ≡ true →
      IsNearing target (edge_of app.releases diff)
  diff-nearing diff good permitted =
      let releases = app.releases in
      let version = version_of_index releases target in
      let aimed : version ≡ goal.item.version = ap
      (λ (o : Option Release). option_map_or (λ (r : Release). r.version) o []) goal.is in
      let found = find-any (is_release diff.from) releases good.start in
      let start = find-position (is_release diff.from) releases found.item found.is in
      let from : diff.from ≡ found.item.version = (bytes_eq-Decides diff.from found.item.version).0 found.passed in
      let end = Passes-option_map_or
      (λ (to : Release). is_offered_at cohort key.pin diff.from to && leads_up releases version diff.from to.version)
      (end_of releases diff) permitted in
      let there = find-position (is_release diff.to) releases end.item end.is in
      let up = (and_parts (is_offered_at cohort key.pin diff.from end.item)
      (leads_up releases version diff.from end.item.version) end.passed).1 in
      let parts = and_parts (is_below diff.from end.item.version)
      (not (is_below version end.item.version) && not (jumps_stone releases diff.from end.item.version)) up in
      let low = (and_parts (not (is_below version end.item.version))
      (not (jumps_stone releases diff.from end.item.version)) parts.1).0 in
      let rises : is_below found.item.version end.item.version ≡ true =
      ap (λ (v : List ℕ). is_below v end.item.version) (sym from) ∙ parts.0 in
      let within : is_below goal.item.version end.item.version ≡ false =
      ap (λ (v : List ℕ). is_below v end.item.version) (sym aimed) ∙ not-true (is_below version end.item.version) low in
      inl (
        index-below irreflexive transitive releases valid.releases_ascend (index_of releases diff.from)
            (index_of releases diff.to)
            found.item end.item start there rises,
        index-not_below irreflexive transitive releases valid.releases_ascend target (index_of releases diff.to)
            goal.item end.item goal.is there within,
      )

  -- what holds of the edges of all permitted differentials
  edges-hold :
      (P : Edge → Type 0) (diffs : List Diff) → list_all (is_valid_diff app.releases) diffs ≡ true →
      ((diff : Diff) → IsGoodDiff app.releases diff →
      permits_differ app.releases cohort key.pin (version_of_index app.releases target) diff ≡ true → P
      (edge_of app.releases diff)) →
      AllByRecursion P
      (map (edge_of app.releases)
      (filter (permits_differ app.releases cohort key.pin (version_of_index app.releases target)) diffs))
  edges-hold P [] all holds = tt
  edges-hold P (diff ∷ diffs) all holds =
      let parts = and_parts (is_valid_diff app.releases diff) (list_all (is_valid_diff app.releases) diffs) all in
      let test = permits_differ app.releases cohort key.pin (version_of_index app.releases target) in
      let rest = edges-hold P diffs parts.1 holds in
      cond_both (test diff) (diff ∷ filter test diffs) (filter test diffs)
      (λ (kept : List Diff). AllByRecursion P (map (edge_of app.releases) kept))
      (λ passed. (holds diff (IsGoodDiff-valid app.releases diff parts.0) passed, rest))
      (λ failed. rest)

  net-IsGraph : IsGraph (net_of app key cohort target)
  net-IsGraph =
      let count = doors-length cohort key.pin app.releases in
      let inside = slice_get_within app.releases target goal.item goal.is in
      let few = valid.few_releases in
      let differs = differs_of app cohort key.pin target in
      record {
        within = omega arith;
        numbered = doors-numbered cohort key.pin app.releases;
        nearing = All-from_recursion (IsNearing target) differs
            (edges-hold (IsNearing target) app.diffs valid.diffs_valid diff-nearing);
        bounded = record {
          few = omega arith;
          doors_sized = doors-sized cohort key.pin app.releases app.cohorts valid.releases_valid;
          differs_sized =
              All-from_recursion (λ (edge : Edge). is_size edge.bytes ≡ true) differs
              (edges-hold (λ (edge : Edge). is_size edge.bytes ≡ true) app.diffs valid.diffs_valid
              (λ diff good permitted. good.sized));
        };
      }

pub track_graphs_are_graphs : BelowIsIrreflexive → BelowIsTransitive → TrackGraphsAreGraphs
track_graphs_are_graphs irreflexive transitive app key net valid made =
    let has = HasGraph-net_in app key net made in
    subst IsGraph has.is
    (net-IsGraph irreflexive transitive app has.cohort key has.target valid
    (target-there app has.cohort key has.target has.targeted))
