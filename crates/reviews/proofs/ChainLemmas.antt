-- The chains of a track lead wherever full packages alone do, and nowhere else.
use Rattle.std.proofs.Common.{◌≡◌, ℕ, ◌+◌, ◌<◌, ◌&&◌, ◌||◌, Bool, true, false, List, [], ◌∷◌, eqb, length, get_or, Option, None, Some, refl, sym, ap, ◌∙◌, subst, arith}
use Rattle.std.specs.List.{enumerate_from, list_any, slice_get}
use Rattle.std.specs.Option.{option_and_then, option_map, option_map_or}
use Rattle.std.proofs.lemmas.Bool.{and_from, and_parts, eqb-true, eq-eqb, false≢true, or_left}
use Rattle.std.proofs.lemmas.List.{get_or-map, length-map}
use Rattle.std.proofs.lemmas.List.Folds.{Any-from_list_any, find_at, list_any_at}
use Rattle.std.proofs.lemmas.List.FromFn.{get_or-enumerate_from, length-enumerate_from}
use Rattle.std.proofs.lemmas.Option.{slice_get_within}
use Rattle.std.proofs.lemmas.Slice.Eq.{bytes_eq-Decides}
use Rattle.catalogue.specs.Lookups.{is_release}
use Rattle.catalogue.specs.declared.content.App.{App}
use Rattle.catalogue.specs.declared.content.Cohort.{Cohort}
use Rattle.catalogue.specs.declared.content.Diff.{Diff}
use Rattle.catalogue.specs.declared.content.Release.{Release}
use Rattle.cohorts.specs.declared.pin.Pin.{Pin}
use Rattle.payload_graph.specs.Chains.{IsChain, cohort_target, destination_of, index_of, target_index}
use Rattle.payload_graph.specs.Permitted.{end_of, is_offered_at, leads_down, leads_up, permits, permits_differ, permits_from, permits_full, permits_in, rolls_back, starts_at}
use Rattle.payload_graph.specs.Places.{version_at}
use Rattle.payload_graph.specs.declared.payload.Payload.{Payload}
use Rattle.payload_graph.specs.declared.payload.Payload.TheVariants.{Full, Differ}
use Rattle.payload_graph.specs.declared.payload.TrackKey.{TrackKey}
use Rattle.payload_graph.specs.declared.place.Place.{Place}
use Rattle.payload_graph.specs.declared.place.Place.TheVariants.{At}
use Rattle.payload_graph.specs.Laws.{FullsArePermitted, IsTrack}
use Rattle.payload_graph.specs.Net.{Net, door_of, doors_of, full, net_with, opens, window}
use Rattle.payload_graph.specs.Soundness.{AreNumbered, no_door}
use Rattle.payload_graph.specs.declared.door.Door.{Door}
use Rattle.payload_graph.specs.declared.edge.Edge.{Edge}
use Rattle.reviews.proofs.ListLemmas.{list_any-filtered}
use Rattle.reviews.specs.Reasons.{HasChain, IsChainedAs}
use Rattle.reviews.specs.Routes.{IsRoute, IsRouted, leads}

-- an option that a test finds is there
record IsThere {A : Type 0} (f : A → Bool) (o : Option A) : Type 0 where
  item : A
  is : o ≡ Some item
  passes : f item ≡ true

IsThere-test : {A : Type 0} (f : A → Bool) (o : Option A) → option_map_or f o false ≡ true → IsThere f o
IsThere-test f None test = absurd (false≢true test)
IsThere-test f (Some x) test = record { item = x; is = refl; passes = test }

-- the door of a numbered release
abbrev pub numbered_door : Cohort → Pin → List Release → ℕ × Release → Door
numbered_door cohort pin releases numbered = door_of cohort pin releases numbered.0 numbered.1

-- the doors of releases
pub length-doors_of : (cohort : Cohort) (pin : Pin) (releases : List Release) → length (doors_of cohort pin releases) ≡ length releases
length-doors_of cohort pin releases =
    length-map (enumerate_from 0 releases) (numbered_door cohort pin releases) ∙ length-enumerate_from 0 releases

pub AreNumbered-doors_of : (cohort : Cohort) (pin : Pin) (releases : List Release) (d : Release) → AreNumbered (doors_of cohort pin releases)
AreNumbered-doors_of cohort pin releases d index within =
    let size = length-doors_of cohort pin releases in
    let sized = length-enumerate_from 0 releases in
    let zeroth : 0 + index ≡ index = omega arith in
    ap (λ (door : Door). door.to)
    (get_or-map (numbered_door cohort pin releases) (enumerate_from 0 releases) index (0, d) no_door (omega arith)
    ∙ ap (numbered_door cohort pin releases) (get_or-enumerate_from 0 releases index (0, d) (omega arith)))
    ∙ zeroth

abbrev leads_to : ℕ → Edge → Bool
leads_to to edge = eqb edge.to to

module _ (fulls_permitted : FullsArePermitted) (app : App) (key : TrackKey) (cohort : Cohort) (target : ℕ) (release : Release) (track : IsTrack app key cohort target release) (target_there : cohort_target app cohort key ≡ Some target) where
  abbrev net : Net
  net = net_with app key cohort target []

  abbrev doors : List Door
  doors = doors_of cohort key.pin app.releases

  abbrev passes : ℕ → Door → Bool
  passes from door = permits app key (At from) (Full door.to)

  abbrev passes_to : ℕ → ℕ → Door → Bool
  passes_to from to door = passes from door && eqb door.to to

  leads-doors : (from to : ℕ) → from < length app.releases → leads net from to ≡ list_any (passes_to from to) doors
  leads-doors from to within =
      list_any-filtered (full from) (opens from) (leads_to to) (window net from)
      ∙ ap (list_any (leads_to to)) (fulls_permitted app key cohort target from release [] track within)
      ∙ sym (list_any-filtered (full from) (passes from) (leads_to to) doors)

  permits-leads : (from to : ℕ) → from < length app.releases → leads net from to ≡ true → permits app key (At from) (Full to) ≡ true
  permits-leads from to within led =
      let any = Any-from_list_any (passes_to from to) doors (sym (leads-doors from to within) ∙ led) in
      let door = any.1 in
      let parts = and_parts (passes from door) (eqb door.to to) any.4 in
      subst (λ n. permits app key (At from) (Full n) ≡ true) (eqb-true door.to to parts.1) parts.0

  leads-permits :
      (from to : ℕ) → from < length app.releases → to < length app.releases → permits app key (At from) (Full to) ≡ true → leads net from to ≡ true
  leads-permits from to within there permitted =
      let size = length-doors_of cohort key.pin app.releases in
      let door = get_or doors to no_door in
      let inside : to < length doors = omega arith in
      let number = AreNumbered-doors_of cohort key.pin app.releases release to inside in
      let own = subst (λ n. permits app key (At from) (Full n) ≡ true) (sym number) permitted in
      leads-doors from to within
      ∙ list_any_at (passes_to from to) doors to no_door inside (and_from (passes from door) (eqb door.to to) own (eq-eqb door.to to number))

  permits-track : (place : Place) (payload : Payload) → permits app key place payload ≡ permits_from app cohort key release.version place payload
  permits-track place payload =
      ap (λ (o : Option Cohort). option_map_or (λ (c : Cohort). permits_in app c key place payload) o false) track.cohort_there
      ∙ ap (λ (o : Option (List ℕ)). option_map_or (λ (v : List ℕ). permits_from app cohort key v place payload) o false) track.targeted

  -- where a payload is permitted, so is the full package of the release that it leads to
  record IsFull (from to : ℕ) : Type 0 where
    within : to < length app.releases
    permitted : permits app key (At from) (Full to) ≡ true

  IsFull-full : (from to : ℕ) → permits app key (At from) (Full to) ≡ true → IsFull from to
  IsFull-full from to permitted =
      let found =
      IsThere-test
      (λ (there : Release). option_map_or (λ (v : List ℕ). permits_full app.releases cohort key release.version v there) (version_at app.releases (At from)) false)
      (slice_get app.releases to) (sym (permits-track (At from) (Full to)) ∙ permitted) in
      record { within = slice_get_within app.releases to found.item found.is; permitted = permitted }

  permits-ends :
      (from to : ℕ) (start end : Release) → slice_get app.releases from ≡ Some start → slice_get app.releases to ≡ Some end →
      permits_full app.releases cohort key release.version start.version end ≡ true → permits app key (At from) (Full to) ≡ true
  permits-ends from to start end start_there end_there allowed =
      permits-track (At from) (Full to)
      ∙ ap (λ (o : Option Release). option_map_or (λ (t : Release). option_map_or (λ (v : List ℕ). permits_full app.releases cohort key release.version v t) (version_at app.releases (At from)) false) o false) end_there
      ∙ ap (λ (o : Option Release). option_map_or (λ (v : List ℕ). permits_full app.releases cohort key release.version v end) (option_map (λ (r : Release). r.version) o) false) start_there
      ∙ allowed

  abbrev moves : List ℕ → Release → Bool
  moves from to = is_offered_at cohort key.pin from to && leads_up app.releases release.version from to.version

  full-moves : (from : List ℕ) (to : Release) → moves from to ≡ true → permits_full app.releases cohort key release.version from to ≡ true
  full-moves from to moved =
      let up = leads_up app.releases release.version from to.version in
      let down = rolls_back cohort key && leads_down release.version from to.version in
      let parts = and_parts (is_offered_at cohort key.pin from to) up moved in
      and_from (is_offered_at cohort key.pin from to) (up || down) parts.0 (or_left up down parts.1)

  IsFull-differ : (from index : ℕ) → permits app key (At from) (Differ index) ≡ true → IsFull from (destination_of app (Differ index))
  IsFull-differ from index permitted =
      let test = λ (d : Diff). starts_at app.releases (At from) d && permits_differ app.releases cohort key.pin release.version d in
      let found = IsThere-test test (slice_get app.diffs index) (sym (permits-track (At from) (Differ index)) ∙ permitted) in
      let diff = found.item in
      let parts = and_parts (starts_at app.releases (At from) diff) (permits_differ app.releases cohort key.pin release.version diff) found.passes in
      let start = IsThere-test (is_release diff.from) (slice_get app.releases from) parts.0 in
      let end = IsThere-test (moves diff.from) (end_of app.releases diff) parts.1 in
      let to = index_of app.releases diff.to in
      let leads_there : destination_of app (Differ index) ≡ to =
      ap (λ (o : Option Diff). option_map_or (λ (d : Diff). index_of app.releases d.to) o (length app.releases)) found.is in
      let there : slice_get app.releases to ≡ Some end.item = sym (find_at (is_release diff.to) app.releases) ∙ end.is in
      let same : diff.from ≡ start.item.version = (bytes_eq-Decides diff.from start.item.version).0 start.passes in
      let allowed = subst (λ v. permits_full app.releases cohort key release.version v end.item ≡ true) same (full-moves diff.from end.item end.passes) in
      subst (IsFull from) (sym leads_there)
      (record {
        within = slice_get_within app.releases to end.item there;
        permitted = permits-ends from to start.item end.item start.is there allowed;
      })

  IsFull-payload : (from : ℕ) (payload : Payload) → permits app key (At from) payload ≡ true → IsFull from (destination_of app payload)
  IsFull-payload from (Full to) permitted = IsFull-full from to permitted
  IsFull-payload from (Differ index) permitted = IsFull-differ from index permitted

  target-is : target_index app key ≡ Some target
  target-is =
      ap (λ (o : Option Cohort). option_and_then (λ (c : Cohort). cohort_target app c key) o) track.cohort_there ∙ target_there

  chain-route : (route : List ℕ) (from : ℕ) → from < length app.releases → IsRoute net from route → HasChain app key (At from)
  chain-route [] from within at =
      ([], ap (λ (o : Option ℕ). option_map (λ n. At n) o) target-is ∙ ap (λ n. Some (At n)) (sym at))
  chain-route (to ∷ more) from within (step, later) =
      let permitted = permits-leads from to within step in
      let rest = chain-route more to (IsFull-full from to permitted).within later in
      (Full to ∷ rest.0, (permitted, rest.1))

  route-chain : (payloads : List Payload) (from : ℕ) → from < length app.releases → IsChain app key (At from) payloads → (route : List ℕ) × IsRoute net from route
  route-chain [] from within at =
      let both : Some (At target) ≡ Some (At from) = sym (ap (λ (o : Option ℕ). option_map (λ n. At n) o) target-is) ∙ at in
      let same : from ≡ target = cc in
      ([], same)
  route-chain (payload ∷ payloads) from within (permitted, later) =
      let to = destination_of app payload in
      let step = IsFull-payload from payload permitted in
      let rest = route-chain payloads to step.within later in
      (to ∷ rest.0, (leads-permits from to within step.within step.permitted, rest.1))

  pub IsChainedAs-routed : (from : ℕ) → from < length app.releases → (b : Bool) → IsRouted net from b → IsChainedAs app key from b
  IsChainedAs-routed from within true routed = chain-route routed.0 from within routed.1
  IsChainedAs-routed from within false routed = λ payloads leads.
      let found = route-chain payloads from within leads in
      routed found.0 found.1
