-- The full packages of a window are the permitted ones.
use Rattle.std.proofs.Common.{◌≡◌, ℕ, ◌+◌, ◌<◌, ◌≤◌, ◌&&◌, ◌||◌, inl, inr, Bool, true, false, cond, List, [], length, get_or, leb, map, refl, sym, ap, ◌∙◌, arith}
use Rattle.std.specs.List.{filter}
use Rattle.std.proofs.lemmas.Bool.{and_from, and_left, and_right, cases_lt, or_from}
use Rattle.std.proofs.lemmas.Option.{get_or_from_slice_get, slice_get-get_or, slice_get_within}
use Rattle.catalogue.specs.VersionLaws.{BelowIsIrreflexive, BelowIsTransitive}
use Rattle.catalogue.specs.Versions.{is_below}
use Rattle.catalogue.specs.Lookups.{place_of}
use Rattle.catalogue.specs.declared.content.App.{App}
use Rattle.catalogue.specs.declared.content.Cohort.{Cohort}
use Rattle.catalogue.specs.declared.content.Release.{Release}
use Rattle.cohorts.specs.Offers.{is_offered}
use Rattle.payload_graph.specs.Permitted.{is_offered_at, leads_down, leads_up, permits, permits_full, rolls_back}
use Rattle.payload_graph.specs.declared.payload.Payload.TheVariants.{Full}
use Rattle.payload_graph.specs.declared.payload.TrackKey.{TrackKey}
use Rattle.payload_graph.specs.declared.place.Place.TheVariants.{At}
use Rattle.payload_graph.proofs.DoorLemmas.{get_or-doors_of, length-doors_of}
use Rattle.payload_graph.proofs.FloorLemmas.{and-swap, place_of-le}
use Rattle.payload_graph.proofs.NearerLemmas.{window-above, window-below}
use Rattle.payload_graph.proofs.OrderLemmas.{below_at, not_below_at}
use Rattle.payload_graph.proofs.RangeLemmas.{filter-between}
use Rattle.payload_graph.proofs.UpwardLemmas.{and-true, leads_up-above, leads_up-below, leads_up-inside, leads_up-past}
use Rattle.payload_graph.specs.Laws.{FullsArePermitted, IsTrack}
use Rattle.payload_graph.specs.Net.{Net, between, doors_of, full, net_with, opens, window}
use Rattle.payload_graph.specs.Soundness.{no_door, reach_of}
use Rattle.payload_graph.specs.declared.door.Door.{Door}
use Rattle.payload_graph.specs.declared.edge.Edge.{Edge}

-- neither line of the rule holds
no_line : (offered up rolls down : Bool) → up ≡ false → (rolls && down) ≡ false → (offered && (up || (rolls && down))) ≡ false
no_line offered up rolls down not_up not_down = and_right _ _ (or_from _ _ not_up not_down)

-- the line upward holds
up_line : (offered up other : Bool) → up ≡ true → (offered && (up || other)) ≡ offered
up_line offered up other holds = ap (λ b. offered && (b || other)) holds ∙ and-true offered

-- the line downward holds
down_line : (offered up rolls down : Bool) → up ≡ false → rolls ≡ true → down ≡ true → (offered && (up || (rolls && down))) ≡ offered
down_line offered up rolls down not_up both holds =
    ap (λ b. offered && (b || (rolls && down))) not_up
    ∙ ap (λ b. offered && (b && down)) both
    ∙ ap (λ b. offered && b) holds
    ∙ and-true offered

module _ (irreflexive : BelowIsIrreflexive) (transitive : BelowIsTransitive) (app : App) (key : TrackKey) (cohort : Cohort) (target from : ℕ) (d : Release) (differs : List Edge) (track : IsTrack app key cohort target d) (there : from < length app.releases) where
  abbrev doors : List Door
  doors = doors_of cohort key.pin app.releases

  abbrev release : ℕ → Release
  release index = get_or app.releases index d

  abbrev is_permitted : Door → Bool
  is_permitted door = permits app key (At from) (Full door.to)

  abbrev is_door_open : Door → Bool
  is_door_open door = opens from door

  aimed : target < length app.releases
  aimed = slice_get_within app.releases target d track.release_there

  at_target : release target ≡ d
  at_target = get_or_from_slice_get app.releases target d d track.release_there

  -- the two lines of the rule
  abbrev up : ℕ → Bool
  up to = leads_up app.releases (release target).version (release from).version (release to).version

  abbrev down : ℕ → Bool
  down to = leads_down (release target).version (release from).version (release to).version

  permits-at :
      (to : ℕ) → to < length app.releases →
      permits app key (At from) (Full to)
      ≡ (is_offered_at cohort key.pin (release from).version (release to) && (up to || (rolls_back cohort key && down to)))
  permits-at to within =
      rw (track.cohort_there, track.targeted, slice_get-get_or app.releases to d within, slice_get-get_or app.releases from d there)
      (ap (λ (r : Release). permits_full app.releases cohort key r.version (release from).version (release to)) (sym at_target))

  -- a door is permitted by the two lines
  door-at :
      (k : ℕ) → k < length doors →
      is_permitted (get_or doors k no_door)
      ≡ (is_offered_at cohort key.pin (release from).version (release k) && (up k || (rolls_back cohort key && down k)))
  door-at k within =
      let sized = length-doors_of cohort key.pin app.releases in
      let fits : k < length app.releases = omega arith in
      ap is_permitted (get_or-doors_of cohort key.pin app.releases k no_door d fits) ∙ permits-at k fits

  offered-at : (k : ℕ) → k < length doors → is_offered_at cohort key.pin (release from).version (release k) ≡ is_door_open (get_or doors k no_door)
  offered-at k within =
      let sized = length-doors_of cohort key.pin app.releases in
      ap (λ b. is_offered cohort key.pin (release k) && b) (sym (place_of-le transitive app.releases d (release k).floor from track.ascending there))
      ∙ and-swap (is_offered cohort key.pin (release k)) (leb (place_of (release k).floor app.releases) from)
      ∙ sym (ap is_door_open (get_or-doors_of cohort key.pin app.releases k no_door d (omega arith)))

  -- a door below the target isn't led down to
  not_down : (k : ℕ) → from ≤ target → down k ≡ false
  not_down k low = and_left _ _ (not_below_at irreflexive transitive app.releases d target from track.ascending low aimed)

  filter-up :
      from ≤ target →
      filter is_permitted doors ≡ filter is_door_open (between (from + 1) (reach_of target doors from) doors)
  filter-up low =
      filter-between is_permitted is_door_open no_door doors (from + 1) (reach_of target doors from) (record {
        below = λ k within less.
            let sized = length-doors_of cohort key.pin app.releases in
            door-at k within
            ∙ no_line (is_offered_at cohort key.pin (release from).version (release k)) (up k) (rolls_back cohort key) (down k) (leads_up-below irreflexive transitive cohort key.pin app.releases d track.ascending target from aimed k (omega arith) there) (and_right (rolls_back cohort key) (down k) (not_down k low));
        above = λ k within more.
            let sized = length-doors_of cohort key.pin app.releases in
            door-at k within
            ∙ no_line (is_offered_at cohort key.pin (release from).version (release k)) (up k) (rolls_back cohort key) (down k) (leads_up-above irreflexive transitive cohort key.pin app.releases d track.ascending target from aimed k low more (omega arith)) (and_right (rolls_back cohort key) (down k) (not_down k low));
        inside = λ k within less more.
            door-at k within
            ∙ up_line (is_offered_at cohort key.pin (release from).version (release k)) (up k) (rolls_back cohort key && down k) (leads_up-inside irreflexive transitive cohort key.pin app.releases d track.ascending target from aimed k low (omega arith) more)
            ∙ offered-at k within;
      })

  not_up : (k : ℕ) → target < from → k < length doors → up k ≡ false
  not_up k past within =
      let sized = length-doors_of cohort key.pin app.releases in
      leads_up-past irreflexive transitive cohort key.pin app.releases d track.ascending target from aimed k past there (omega arith)

  filter-down :
      target < from → rolls_back cohort key ≡ true →
      filter is_permitted doors ≡ filter is_door_open (between 0 from doors)
  filter-down past rolls =
      filter-between is_permitted is_door_open no_door doors 0 from (record {
        below = λ k within less. absurd (omega arith);
        above = λ k within more.
            let sized = length-doors_of cohort key.pin app.releases in
            door-at k within
            ∙ no_line (is_offered_at cohort key.pin (release from).version (release k)) (up k) (rolls_back cohort key) (down k) (not_up k past within) (and_right (rolls_back cohort key) (down k) (and_right (is_below (release target).version (release from).version) (is_below (release k).version (release from).version) (not_below_at irreflexive transitive app.releases d k from track.ascending more (omega arith))));
        inside = λ k within less more.
            door-at k within
            ∙ down_line (is_offered_at cohort key.pin (release from).version (release k)) (up k) (rolls_back cohort key) (down k) (not_up k past within) rolls (and_from _ _ (below_at app.releases d target from track.ascending past there) (below_at app.releases d k from track.ascending more there))
            ∙ offered-at k within;
      })

  filter-nowhere :
      target < from → rolls_back cohort key ≡ false →
      filter is_permitted doors ≡ filter is_door_open (between 0 0 doors)
  filter-nowhere past rolls =
      filter-between is_permitted is_door_open no_door doors 0 0 (record {
        below = λ k within less. absurd (omega arith);
        above = λ k within more.
            door-at k within ∙ no_line (is_offered_at cohort key.pin (release from).version (release k)) (up k) (rolls_back cohort key) (down k) (not_up k past within) (and_left (rolls_back cohort key) (down k) rolls);
        inside = λ k within less more. absurd (omega arith);
      })

  abbrev net : Net
  net = net_with app key cohort target differs

  filter-window : filter is_door_open (window net from) ≡ filter is_permitted doors
  filter-window = elim (cases_lt target from) [
    | inl past ↦ above (rolls_back cohort key) refl past
    | inr low ↦
        let sized = length-doors_of cohort key.pin app.releases in
        let aim : target < length app.releases = aimed in
        ap (filter is_door_open) (window-below net from low (omega arith)) ∙ sym (filter-up low)
  ]
    where
      above : (b : Bool) → rolls_back cohort key ≡ b → target < from → filter is_door_open (window net from) ≡ filter is_permitted doors
      above true rolls past =
          ap (filter is_door_open) (window-above net from past ∙ ap (λ b. cond b (between 0 from doors) []) rolls)
          ∙ sym (filter-down past rolls)
      above false rolls past =
          ap (filter is_door_open) (window-above net from past ∙ ap (λ b. cond b (between 0 from doors) []) rolls)
          ∙ sym (filter-nowhere past rolls)

pub fulls_are_permitted : BelowIsIrreflexive → BelowIsTransitive → FullsArePermitted
fulls_are_permitted irreflexive transitive app key cohort target from release differs track there =
    ap (map (full from)) (filter-window irreflexive transitive app key cohort target from release differs track there)
