-- Tables and tracks are the same ones.
use Rattle.std.proofs.Common.{◌≡◌, ℕ, zero, suc, ◌+◌, ◌&&◌, inl, inr, Bool, true, false, cond, List, [], ◌∷◌, get_or, map, Option, None, Some, refl, sym, ap, ◌∙◌, subst, arith}
use Rattle.std.specs.List.{All, Any, Contains, slice_get}
use Rattle.std.specs.Option.{option_and_then, option_map}
use Rattle.std.proofs.lemmas.Bool.{and_parts}
use Rattle.std.proofs.lemmas.List.{get_or-map, get_or_default, length-map}
use Rattle.std.proofs.lemmas.List.Elements.{All-append, All-cons, All-nil, Contains-append_cases, Contains-append_left, Contains-append_right}
use Rattle.std.proofs.lemmas.Option.{get_or_from_slice_get, slice_get-get_or, slice_get_within}
use Rattle.catalogue.specs.declared.content.App.{App}
use Rattle.catalogue.specs.declared.content.Cohort.{Cohort}
use Rattle.cohorts.specs.declared.pin.Pin.{Pin}
use Rattle.cohorts.specs.declared.pin.Pin.TheVariants as pin
use Rattle.cohorts.specs.declared.track.Lane.{Lane}
use Rattle.cohorts.specs.declared.track.Lane.TheVariants.{Target, Held}
use Rattle.payload_graph.specs.Chains.{cohort_target}
use Rattle.payload_graph.specs.declared.payload.TrackKey.{TrackKey}
use Rattle.payload_graph.specs.Net.{Net, net_among, net_in, net_of}
use Rattle.price_cert.specs.Tables.{Certificate}
use Rattle.par_tables.proofs.PlaceLemmas.{found_net, net_among-key, nets_of-cons}
use Rattle.par_tables.specs.Tables.{TablesAreOfTracks, TracksHaveTables, net_of_table, nets_of}
use Rattle.par_tables.specs.Tracks.{app_keys, cohort_keys, joined_from, keys_of, lane_keys}

-- the graphs of keys are those of their own keys
abbrev IsOfTrack : List App → Net → Type 0
IsOfTrack apps net = net_among apps net.key ≡ Some net

All-of_tracks : (apps : List App) (keys : List TrackKey) → All (IsOfTrack apps) (nets_of apps keys)
All-of_tracks apps [] = All-nil (IsOfTrack apps)
All-of_tracks apps (key ∷ keys) =
    subst (All (IsOfTrack apps)) (sym (nets_of-cons apps key keys))
    (All-append (IsOfTrack apps) (found_net (net_among apps key)) (nets_of apps keys) (one (net_among apps key) refl) (All-of_tracks apps keys))
  where
    one : (found : Option Net) → net_among apps key ≡ found → All (IsOfTrack apps) (found_net found)
    one None there = All-nil (IsOfTrack apps)
    one (Some net) there =
        All-cons (IsOfTrack apps) net [] (ap (net_among apps) (net_among-key apps key net there) ∙ there) (All-nil (IsOfTrack apps))

pub tables_are_of_tracks : TablesAreOfTracks
tables_are_of_tracks apps tables are place d within =
    let all = subst (All (IsOfTrack apps)) (sym are.nets) (All-of_tracks apps (keys_of apps)) in
    let sized = length-map tables net_of_table in
    subst (IsOfTrack apps) (get_or-map net_of_table tables place d (net_of_table d) within) (all place (net_of_table d) (omega arith))

-- the graph of a key of a list is among the list's
Contains-nets_of :
    (apps : List App) (keys : List TrackKey) (key : TrackKey) (net : Net) →
    net_among apps key ≡ Some net → Contains keys key → Contains (nets_of apps keys) net
Contains-nets_of apps [] key net there inside = absurd (let none = inside.1 in omega arith)
Contains-nets_of apps (first ∷ keys) key net there inside =
    subst (λ (nets : List Net). Contains nets net) (sym (nets_of-cons apps first keys))
    (elim (Contains-append_cases (first ∷ []) keys key inside) [
      | inl here ↦
          Contains-append_left (found_net (net_among apps first)) (nets_of apps keys) net
          (subst (λ (found : Option Net). Contains (found_net found) net) (sym (ap (net_among apps) (own here) ∙ there)) (0, omega arith, refl))
      | inr later ↦
          Contains-append_right (found_net (net_among apps first)) (nets_of apps keys) net (Contains-nets_of apps keys key net there later)
    ])
  where
    own : Contains (first ∷ []) key → first ≡ key
    own here =
        let few = here.1 in
        let zeroth : here.0 ≡ 0 = omega arith in
        sym (ap (λ n. get_or (first ∷ []) n key) zeroth) ∙ here.2

-- an item's list is among the joined ones
Contains-joined_from :
    {A B : Type 0} (f : ℕ → A → List B) (index place : ℕ) (xs : List A) (x : A) (y : B) →
    slice_get xs place ≡ Some x → Contains (f (index + place) x) y → Contains (joined_from f index xs) y
Contains-joined_from f index place [] x y there inside = absurd (let within = slice_get_within [] place x there in omega arith)
Contains-joined_from {A} {B} f index zero (first ∷ xs) x y there inside =
    let same : first ≡ x = get_or_from_slice_get (first ∷ xs) 0 x first there in
    let count : index + 0 ≡ index = omega arith in
    Contains-append_left (f index first) (joined_from f (index + 1) xs) y
    (subst (λ (item : A). Contains (f index item) y) (sym same) (subst (λ n. Contains (f n x) y) count inside))
Contains-joined_from {A} {B} f index (suc place) (first ∷ xs) x y there inside =
    let count : index + suc place ≡ index + 1 + place = omega arith in
    Contains-append_right (f index first) (joined_from f (index + 1) xs) y
    (Contains-joined_from f (index + 1) place xs x y (next first xs place x there) (subst (λ n. Contains (f n x) y) count inside))
  where
    next : (first : A) (xs : List A) (place : ℕ) (x : A) → slice_get (first ∷ xs) (suc place) ≡ Some x → slice_get xs place ≡ Some x
    next first xs place x there =
        let within = slice_get_within (first ∷ xs) (suc place) x there in
        slice_get-get_or xs place x (omega arith) ∙ ap (λ item. Some item) (get_or_from_slice_get (first ∷ xs) (suc place) x x there)

-- a key of a cohort that allows what the key does is among the cohort's
Contains-lane_keys :
    (app index : ℕ) (cohort : Cohort) (lane : Lane) (rolls : Bool) → (cohort.rollback && rolls) ≡ rolls →
    Contains (lane_keys app index cohort lane) (record { app = app; cohort = index; lane = lane; rollback = rolls; pin = pin.Any })
Contains-lane_keys app index cohort lane false allowed = (0, omega arith, refl)
Contains-lane_keys app index cohort lane true allowed =
    let rolls = (and_parts cohort.rollback true allowed).0 in
    Contains-append_right (key false ∷ []) (cond cohort.rollback (key true ∷ []) []) (key true)
    (subst (λ b. Contains (cond b (key true ∷ []) []) (key true)) (sym rolls) (0, omega arith, refl))
  where
    key : Bool → TrackKey
    key rollback = record { app = app; cohort = index; lane = lane; rollback = rollback; pin = pin.Any }

Contains-cohort_keys :
    (app index : ℕ) (cohort : Cohort) (lane : Lane) (rolls : Bool) → (cohort.rollback && rolls) ≡ rolls →
    Contains (cohort_keys app index cohort) (record { app = app; cohort = index; lane = lane; rollback = rolls; pin = pin.Any })
Contains-cohort_keys app index cohort Target rolls allowed =
    Contains-append_left (lane_keys app index cohort Target) (lane_keys app index cohort Held) (record { app = app; cohort = index; lane = Target; rollback = rolls; pin = pin.Any })
    (Contains-lane_keys app index cohort Target rolls allowed)
Contains-cohort_keys app index cohort Held rolls allowed =
    Contains-append_right (lane_keys app index cohort Target) (lane_keys app index cohort Held) (record { app = app; cohort = index; lane = Held; rollback = rolls; pin = pin.Any })
    (Contains-lane_keys app index cohort Held rolls allowed)

-- a track with a target is among the keys
Contains-keys_of :
    (apps : List App) (key : TrackKey) (net : Net) →
    net_among apps key ≡ Some net → net.rollback ≡ key.rollback → key.pin ≡ pin.Any → Contains (keys_of apps) key
Contains-keys_of apps key net there allowed free = in_apps (slice_get apps key.app) refl there
  where
    in_target : (app : App) (cohort : Cohort) (found : Option ℕ) → option_map (net_of app key cohort) found ≡ Some net → (cohort.rollback && key.rollback) ≡ key.rollback
    in_target app cohort None there = cc
    in_target app cohort (Some target) there =
        let same : net_of app key cohort target ≡ net = cc in
        ap (λ (n : Net). n.rollback) same ∙ allowed

    in_cohorts :
        (app : App) (found : Option Cohort) → slice_get app.cohorts key.cohort ≡ found →
        option_and_then (λ cohort. option_map (net_of app key cohort) (cohort_target app cohort key)) found ≡ Some net →
        Contains (app_keys key.app app) key
    in_cohorts app None is there = cc
    in_cohorts app (Some cohort) is there =
        let count : 0 + key.cohort ≡ key.cohort = omega arith in
        Contains-joined_from (cohort_keys key.app) 0 key.cohort app.cohorts cohort key is
        (subst (λ n. Contains (cohort_keys key.app n cohort) key) (sym count)
        (subst (λ (p : Pin). Contains (cohort_keys key.app key.cohort cohort) (record { app = key.app; cohort = key.cohort; lane = key.lane; rollback = key.rollback; pin = p })) (sym free)
        (Contains-cohort_keys key.app key.cohort cohort key.lane key.rollback (in_target app cohort (cohort_target app cohort key) there))))

    in_apps :
        (found : Option App) → slice_get apps key.app ≡ found →
        option_and_then (λ app. net_in app key) found ≡ Some net → Contains (keys_of apps) key
    in_apps None is there = cc
    in_apps (Some app) is there =
        let count : 0 + key.app ≡ key.app = omega arith in
        Contains-joined_from app_keys 0 key.app apps app key is
        (subst (λ n. Contains (app_keys n app) key) (sym count) (in_cohorts app (slice_get app.cohorts key.cohort) refl there))

pub tracks_have_tables : TracksHaveTables
tracks_have_tables apps tables key net are there allowed free =
    let inside = subst (λ (nets : List Net). Contains nets net) (sym are.nets) (Contains-nets_of apps (keys_of apps) key net there (Contains-keys_of apps key net there allowed free)) in
    table_at inside
  where
    table_at : Contains (map net_of_table tables) net → Any (λ (table : Certificate). table.net ≡ net) tables
    table_at inside =
        let sized = length-map tables net_of_table in
        let below = inside.1 in
        let d : Certificate = record { net = net; rows = [] } in
        (inside.0, get_or tables inside.0 d, omega arith, get_or_default tables inside.0 (get_or tables inside.0 d) d (omega arith), sym (get_or-map net_of_table tables inside.0 d net (omega arith)) ∙ inside.2)
