-- The payloads that are permitted from a release are those that leave it in the graph.
use Rattle.std.proofs.Common.{◌≡◌, ℕ, ◌<◌, ◌&&◌, inl, inr, Bool, true, false, List, length, map, Option, Some, refl, sym, ap, ◌∙◌, subst}
use Rattle.std.specs.List.{Contains, enumerate_from, filter, slice_get}
use Rattle.std.specs.Option.{option_map_or}
use Rattle.std.proofs.lemmas.Bool.{and_parts}
use Rattle.std.proofs.lemmas.List.Elements.{Contains-append_cases, Contains-append_left, Contains-append_right}
use Rattle.std.proofs.lemmas.List.Folds.{find_at}
use Rattle.std.proofs.lemmas.Option.{slice_get_within}
use Rattle.catalogue.specs.Lookups.{is_release}
use Rattle.catalogue.specs.Validity.{IsValidApp}
use Rattle.catalogue.specs.declared.content.App.{App}
use Rattle.catalogue.specs.declared.content.Cohort.{Cohort}
use Rattle.catalogue.specs.declared.content.Diff.{Diff}
use Rattle.catalogue.specs.declared.content.Release.{Release}
use Rattle.payload_graph.specs.Chains.{bytes_of, destination_of, index_of}
use Rattle.payload_graph.specs.Permitted.{end_of, is_offered_at, leads_up, permits, permits_differ, permits_from, permits_full, permits_in, starts_at}
use Rattle.payload_graph.specs.Places.{version_at}
use Rattle.payload_graph.specs.declared.payload.Payload.{Payload}
use Rattle.payload_graph.specs.declared.payload.Payload.TheVariants.{Full, Differ}
use Rattle.payload_graph.specs.declared.payload.TrackKey.{TrackKey}
use Rattle.payload_graph.specs.declared.place.Place.{Place}
use Rattle.payload_graph.specs.declared.place.Place.TheVariants.{At}
use Rattle.payload_graph.specs.Laws.{DiffersArePermitted, FullsArePermitted, IsTrack}
use Rattle.payload_graph.specs.Net.{Net, differs_of, door_of, doors_of, edge_of, edges_from, full, fulls, leaves, net_of, window}
use Rattle.payload_graph.specs.declared.door.Door.{Door}
use Rattle.payload_graph.specs.declared.edge.Edge.{Edge}
use Rattle.catalogue.specs.VersionLaws.{BelowIsIrreflexive}
use Rattle.quotes.specs.Quotes.{kind_of, payload_named}
use Rattle.quotes.proofs.NamedLemmas.{HasEnds, payload_named-differ}
use Rattle.quotes.proofs.MemberLemmas.{ComesFrom-map, Contains-filter, Contains-filtered, Contains-map, Contains-numbered, IsThere, IsThere-test, passes-filtered, passes-found, slice_get-numbered}

-- a payload is the same in the catalogue and in the graph
pub record Matches (app : App) (payload : Payload) (edge : Edge) : Type 0 where
  pub to : destination_of app payload ≡ edge.to
  pub bytes : bytes_of app payload ≡ edge.bytes
  pub kind : kind_of payload ≡ edge.kind

-- a payload of the catalogue in the graph
pub record HasEdge (app : App) (net : Net) (from : ℕ) (payload : Payload) : Type 0 where
  pub edge : Edge
  pub inside : Contains (edges_from net from) edge
  pub matches : Matches app payload edge

-- a payload of the graph in the catalogue
pub record HasPayload (app : App) (key : TrackKey) (from : ℕ) (edge : Edge) : Type 0 where
  pub payload : Payload
  pub permitted : permits app key (At from) payload ≡ true
  pub matches : Matches app payload edge
  pub named : payload_named app.releases app.diffs from edge.kind edge.to ≡ Some payload

-- what is permitted on a track
pub permits-track :
    (app : App) (key : TrackKey) (cohort : Cohort) (target : ℕ) (release : Release) (place : Place) (payload : Payload) →
    IsTrack app key cohort target release →
    permits app key place payload
    ≡ permits_from app cohort key release.version place payload
permits-track app key cohort target release place payload track =
    ap (λ (o : Option Cohort). option_map_or (λ (c : Cohort). permits_in app c key place payload) o false) track.cohort_there
    ∙ ap (λ (o : Option (List ℕ)). option_map_or (λ (v : List ℕ). permits_from app cohort key v place payload) o false) track.targeted

-- the release of a full package is there
pub full_there :
    (app : App) (key : TrackKey) (cohort : Cohort) (target : ℕ) (release : Release) (place : Place) (to : ℕ) →
    IsTrack app key cohort target release → permits app key place (Full to) ≡ true →
    IsThere (slice_get app.releases to)
full_there app key cohort target release place to track permitted =
    IsThere-test
    (λ (there : Release). option_map_or (λ (from : List ℕ). permits_full app.releases cohort key release.version from there) (version_at app.releases place) false)
    (slice_get app.releases to)
    (sym (permits-track app key cohort target release place (Full to) track) ∙ permitted)

-- a differential is there, and leads to a release
record HasDiffer (app : App) (index : ℕ) : Type 0 where
  diff : Diff
  there : slice_get app.diffs index ≡ Some diff
  within : index_of app.releases diff.to < length app.releases

differ_there :
    (app : App) (key : TrackKey) (cohort : Cohort) (target : ℕ) (release : Release) (place : Place) (index : ℕ) →
    IsTrack app key cohort target release → permits app key place (Differ index) ≡ true →
    HasDiffer app index
differ_there app key cohort target release place index track permitted =
    let test = λ (diff : Diff). starts_at app.releases place diff && permits_differ app.releases cohort key.pin release.version diff in
    let tested : option_map_or test (slice_get app.diffs index) false ≡ true =
    sym (permits-track app key cohort target release place (Differ index) track) ∙ permitted in
    let found = IsThere-test test (slice_get app.diffs index) tested in
    let diff = found.item in
    let passed : test diff ≡ true = sym (ap (λ (o : Option Diff). option_map_or test o false) found.is) ∙ tested in
    let parts = and_parts (starts_at app.releases place diff) (permits_differ app.releases cohort key.pin release.version diff) passed in
    let end = IsThere-test (λ (to : Release). is_offered_at cohort key.pin diff.from to && leads_up app.releases release.version diff.from to.version) (end_of app.releases diff) parts.1 in
    record {
      diff = diff;
      there = found.is;
      within = slice_get_within app.releases (index_of app.releases diff.to) end.item (sym (find_at (is_release diff.to) app.releases) ∙ end.is);
    }

-- the releases that a permitted differential starts at and leads to
differ_ends :
    (app : App) (key : TrackKey) (cohort : Cohort) (target : ℕ) (release : Release) (from index : ℕ) (diff : Diff) →
    IsTrack app key cohort target release → permits app key (At from) (Differ index) ≡ true →
    slice_get app.diffs index ≡ Some diff →
    HasEnds app.releases from diff
differ_ends app key cohort target release from index diff track permitted there =
    let test = λ (d : Diff). starts_at app.releases (At from) d && permits_differ app.releases cohort key.pin release.version d in
    let tested : option_map_or test (slice_get app.diffs index) false ≡ true =
    sym (permits-track app key cohort target release (At from) (Differ index) track) ∙ permitted in
    let passed : test diff ≡ true = sym (ap (λ (o : Option Diff). option_map_or test o false) there) ∙ tested in
    let parts = and_parts (starts_at app.releases (At from) diff) (permits_differ app.releases cohort key.pin release.version diff) passed in
    let start = IsThere-test (is_release diff.from) (slice_get app.releases from) parts.0 in
    let starts : is_release diff.from start.item ≡ true =
    sym (ap (λ (o : Option Release). option_map_or (is_release diff.from) o false) start.is) ∙ parts.0 in
    let end = IsThere-test (λ (to : Release). is_offered_at cohort key.pin diff.from to && leads_up app.releases release.version diff.from to.version) (end_of app.releases diff) parts.1 in
    record {
      start = start.item;
      start_there = start.is;
      starts = starts;
      end = end.item;
      end_there = sym (find_at (is_release diff.to) app.releases) ∙ end.is;
      ends = passes-found (is_release diff.to) app.releases end.item end.is;
    }

-- a permitted payload leads to a release
pub destination-within :
    (app : App) (key : TrackKey) (cohort : Cohort) (target : ℕ) (release : Release) (place : Place) (payload : Payload) →
    IsTrack app key cohort target release → permits app key place payload ≡ true →
    destination_of app payload < length app.releases
destination-within app key cohort target release place (Full to) track permitted =
    let found = full_there app key cohort target release place to track permitted in
    slice_get_within app.releases to found.item found.is
destination-within app key cohort target release place (Differ index) track permitted =
    let found = differ_there app key cohort target release place index track permitted in
    let to = ap (λ (o : Option Diff). option_map_or (λ (diff : Diff). index_of app.releases diff.to) o (length app.releases)) found.there in
    subst (λ n. n < length app.releases) (sym to) found.within

module _ (irreflexive : BelowIsIrreflexive) (fulls_permitted : FullsArePermitted) (differs_permitted : DiffersArePermitted) (app : App) (key : TrackKey) (cohort : Cohort) (target : ℕ) (release : Release) (valid : IsValidApp app) (track : IsTrack app key cohort target release) (from : ℕ) (within : from < length app.releases) where
  abbrev net : Net
  net = net_of app key cohort target

  abbrev all_fulls : List Edge
  all_fulls = fulls from (window net from)

  abbrev all_differs : List Edge
  all_differs = filter (leaves from) (differs_of app cohort key.pin target)

  abbrev passes_full : Door → Bool
  passes_full door = permits app key (At from) (Full door.to)

  abbrev passes_differ : ℕ × Diff → Bool
  passes_differ numbered = permits app key (At from) (Differ numbered.0)

  abbrev edge_from : ℕ × Diff → Edge
  edge_from numbered = edge_of app.releases numbered.1

  abbrev numbered_door : ℕ × Release → Door
  numbered_door numbered = door_of cohort key.pin app.releases numbered.0 numbered.1

  fulls_are : all_fulls ≡ map (full from) (filter passes_full (doors_of cohort key.pin app.releases))
  fulls_are = fulls_permitted app key cohort target from release (differs_of app cohort key.pin target) track within

  differs_are : all_differs ≡ map edge_from (filter passes_differ (enumerate_from 0 app.diffs))
  differs_are = differs_permitted app key cohort target from release valid track within

  -- a permitted payload is in the graph
  pub edge-permitted : (payload : Payload) → permits app key (At from) payload ≡ true → HasEdge app net from payload
  edge-permitted (Full to) permitted =
      let found = full_there app key cohort target release (At from) to track permitted in
      let there = found.item in
      let door = door_of cohort key.pin app.releases to there in
      let numbered = Contains-numbered app.releases to there found.is in
      let in_doors = Contains-map numbered_door (enumerate_from 0 app.releases) (to, there) numbered in
      let kept = Contains-filter passes_full (doors_of cohort key.pin app.releases) door in_doors permitted in
      let mapped = Contains-map (full from) (filter passes_full (doors_of cohort key.pin app.releases)) door kept in
      let inside = subst (λ (edges : List Edge). Contains edges (full from door)) (sym fulls_are) mapped in
      record {
        edge = full from door;
        inside = Contains-append_left all_fulls all_differs (full from door) inside;
        matches = record {
          to = refl;
          bytes = ap (λ (o : Option Release). option_map_or (λ (r : Release). r.size) o 0) found.is;
          kind = refl;
        };
      }
  edge-permitted (Differ index) permitted =
      let found = differ_there app key cohort target release (At from) index track permitted in
      let diff = found.diff in
      let edge = edge_of app.releases diff in
      let numbered = Contains-numbered app.diffs index diff found.there in
      let kept = Contains-filter passes_differ (enumerate_from 0 app.diffs) (index, diff) numbered permitted in
      let mapped = Contains-map edge_from (filter passes_differ (enumerate_from 0 app.diffs)) (index, diff) kept in
      let inside = subst (λ (edges : List Edge). Contains edges edge) (sym differs_are) mapped in
      record {
        edge = edge;
        inside = Contains-append_right all_fulls all_differs edge inside;
        matches = record {
          to = ap (λ (o : Option Diff). option_map_or (λ (d : Diff). index_of app.releases d.to) o (length app.releases)) found.there;
          bytes = ap (λ (o : Option Diff). option_map_or (λ (d : Diff). d.size) o 0) found.there;
          kind = refl;
        };
      }

  full_payload : (edge : Edge) → Contains all_fulls edge → HasPayload app key from edge
  full_payload edge inside =
      let listed = subst (λ (edges : List Edge). Contains edges edge) fulls_are inside in
      let come = ComesFrom-map (full from) (filter passes_full (doors_of cohort key.pin app.releases)) edge listed in
      let door = come.source in
      let in_doors = Contains-filtered passes_full (doors_of cohort key.pin app.releases) door come.inside in
      let origin = ComesFrom-map numbered_door (enumerate_from 0 app.releases) door in_doors in
      let numbered = origin.source in
      let there = slice_get-numbered app.releases numbered origin.inside in
      let number : numbered.0 ≡ door.to = ap (λ (d : Door). d.to) origin.is in
      let found : slice_get app.releases door.to ≡ Some numbered.1 = ap (λ n. slice_get app.releases n) (sym number) ∙ there in
      record {
        payload = Full door.to;
        permitted = passes-filtered passes_full (doors_of cohort key.pin app.releases) door come.inside;
        matches = record {
          to = ap (λ (e : Edge). e.to) come.is;
          bytes =
              ap (λ (o : Option Release). option_map_or (λ (r : Release). r.size) o 0) found
              ∙ ap (λ (d : Door). d.bytes) origin.is
              ∙ ap (λ (e : Edge). e.bytes) come.is;
          kind = ap (λ (e : Edge). e.kind) come.is;
        };
        named = subst (λ (e : Edge). payload_named app.releases app.diffs from e.kind e.to ≡ Some (Full door.to)) come.is refl;
      }

  differ_payload : (edge : Edge) → Contains all_differs edge → HasPayload app key from edge
  differ_payload edge inside =
      let listed = subst (λ (edges : List Edge). Contains edges edge) differs_are inside in
      let come = ComesFrom-map edge_from (filter passes_differ (enumerate_from 0 app.diffs)) edge listed in
      let numbered = come.source in
      let there = slice_get-numbered app.diffs numbered (Contains-filtered passes_differ (enumerate_from 0 app.diffs) numbered come.inside) in
      let permitted = passes-filtered passes_differ (enumerate_from 0 app.diffs) numbered come.inside in
      let ends = differ_ends app key cohort target release from numbered.0 numbered.1 track permitted there in
      record {
        payload = Differ numbered.0;
        permitted = permitted;
        matches = record {
          to =
              ap (λ (o : Option Diff). option_map_or (λ (d : Diff). index_of app.releases d.to) o (length app.releases)) there
              ∙ ap (λ (e : Edge). e.to) come.is;
          bytes =
              ap (λ (o : Option Diff). option_map_or (λ (d : Diff). d.size) o 0) there
              ∙ ap (λ (e : Edge). e.bytes) come.is;
          kind = ap (λ (e : Edge). e.kind) come.is;
        };
        named =
            subst (λ (e : Edge). payload_named app.releases app.diffs from e.kind e.to ≡ Some (Differ numbered.0)) come.is
            (payload_named-differ irreflexive app.releases app.diffs from numbered.0 numbered.1 valid.diffs_ascend there ends);
      }

  -- a payload of the graph is permitted
  pub payload-edge : (edge : Edge) → Contains (edges_from net from) edge → HasPayload app key from edge
  payload-edge edge inside = elim (Contains-append_cases all_fulls all_differs edge inside) [
    | inl in_fulls ↦ full_payload edge in_fulls
    | inr in_differs ↦ differ_payload edge in_differs
  ]
