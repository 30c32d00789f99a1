-- The tables of a content are of clients without a pin.
use Rattle.std.proofs.Common.{◌≡◌, ℕ, ◌+◌, Bool, true, false, cond, List, [], ◌∷◌, Option, None, Some, refl, sym, ap, subst, arith}
use Rattle.std.specs.List.{All, filter_map, slice_get}
use Rattle.std.specs.Option.{option_and_then, option_map}
use Rattle.std.proofs.lemmas.List.{get_or-map, length-map}
use Rattle.std.proofs.lemmas.List.Elements.{All-append, All-cons, All-head, All-nil, All-tail, filter_map-append}
use Rattle.catalogue.specs.declared.content.App.{App}
use Rattle.catalogue.specs.declared.content.Cohort.{Cohort}
use Rattle.cohorts.specs.declared.pin.Pin.TheVariants as pin
use Rattle.cohorts.specs.declared.track.Lane.{Lane}
use Rattle.cohorts.specs.declared.track.Lane.TheVariants.{Target, Held}
use Rattle.payload_graph.specs.Chains.{cohort_target}
use Rattle.payload_graph.specs.declared.payload.TrackKey.{TrackKey}
use Rattle.payload_graph.specs.Net.{Net, net_among, net_in, net_of}
use Rattle.price_cert.specs.Tables.{Certificate}
use Rattle.par_tables.specs.Tables.{AreTables, net_of_table, nets_of}
use Rattle.par_tables.specs.Tracks.{app_keys, cohort_keys, joined_from, keys_of, lane_keys}

abbrev HasNoPin : TrackKey → Type 0
HasNoPin key = key.pin ≡ pin.Any

abbrev HasNoPinOfNet : Net → Type 0
HasNoPinOfNet net = HasNoPin net.key

All-joined_from :
    {A B : Type 0} (P : B → Type 0) (f : ℕ → A → List B) → ((index : ℕ) (x : A) → All P (f index x)) → (index : ℕ) (xs : List A) →
    All P (joined_from f index xs)
All-joined_from P f each index [] = All-nil P
All-joined_from P f each index (x ∷ xs) =
    All-append P (f index x) (joined_from f (index + 1) xs) (each index x) (All-joined_from P f each (index + 1) xs)

All-lane_keys : (app index : ℕ) (cohort : Cohort) (lane : Lane) → All HasNoPin (lane_keys app index cohort lane)
All-lane_keys app index cohort lane =
    All-cons HasNoPin (key false) (cond cohort.rollback (key true ∷ []) []) refl (cases cohort.rollback)
  where
    key : Bool → TrackKey
    key rollback = record { app = app; cohort = index; lane = lane; rollback = rollback; pin = pin.Any }

    cases : (b : Bool) → All HasNoPin (cond b (key true ∷ []) [])
    cases true = All-cons HasNoPin (key true) [] refl (All-nil HasNoPin)
    cases false = All-nil HasNoPin

All-keys_of : (apps : List App) → All HasNoPin (keys_of apps)
All-keys_of apps =
    All-joined_from HasNoPin app_keys (λ app content.
    All-joined_from HasNoPin (cohort_keys app) (λ index cohort.
    All-append HasNoPin (lane_keys app index cohort Target) (lane_keys app index cohort Held) (All-lane_keys app index cohort Target)
    (All-lane_keys app index cohort Held)) 0 content.cohorts) 0 apps

-- the graph of a key has that key
pub key-of_net : (apps : List App) (key : TrackKey) (net : Net) → net_among apps key ≡ Some net → net.key ≡ key
key-of_net apps key net made = in_apps (slice_get apps key.app) made
  where
    to : (app : App) (cohort : Cohort) (target : Option ℕ) → option_map (net_of app key cohort) target ≡ Some net → net.key ≡ key
    to app cohort None made = cc
    to app cohort (Some target) made =
        let same : net_of app key cohort target ≡ net = cc in
        ap (λ (n : Net). n.key) (sym same)

    in_app :
        (app : App) (cohort : Option Cohort) →
        option_and_then (λ cohort. option_map (net_of app key cohort) (cohort_target app cohort key)) cohort ≡ Some net →
        net.key ≡ key
    in_app app None made = cc
    in_app app (Some cohort) made = to app cohort (cohort_target app cohort key) made

    in_apps : (app : Option App) → option_and_then (λ app. net_in app key) app ≡ Some net → net.key ≡ key
    in_apps None made = cc
    in_apps (Some app) made = in_app app (slice_get app.cohorts key.cohort) made

abbrev found_net : Option Net → List Net
found_net found = filter_map (λ (n : ℕ). found) (0 ∷ [])

All-nets_of : (apps : List App) (keys : List TrackKey) → All HasNoPin keys → All HasNoPinOfNet (nets_of apps keys)
All-nets_of apps [] all = All-nil HasNoPinOfNet
All-nets_of apps (key ∷ keys) all =
    subst (All HasNoPinOfNet) (sym (filter_map-append (net_among apps) (key ∷ []) keys))
    (All-append HasNoPinOfNet (found_net (net_among apps key)) (nets_of apps keys)
    (one (net_among apps key) refl) (All-nets_of apps keys (All-tail HasNoPin key keys all)))
  where
    one : (found : Option Net) → net_among apps key ≡ found → All HasNoPinOfNet (found_net found)
    one None there = All-nil HasNoPinOfNet
    one (Some net) there =
        All-cons HasNoPinOfNet net [] (subst HasNoPin (sym (key-of_net apps key net there)) (All-head HasNoPin key keys all))
        (All-nil HasNoPinOfNet)

pub tables_have_no_pin :
    (apps : List App) (tables : List Certificate) → AreTables apps tables → All (λ (table : Certificate). table.net.key.pin ≡ pin.Any) tables
tables_have_no_pin apps tables are index d within =
    let all = subst (All HasNoPinOfNet) (sym are.nets) (All-nets_of apps (keys_of apps) (All-keys_of apps)) in
    let sized = length-map tables net_of_table in
    subst HasNoPinOfNet (get_or-map net_of_table tables index d (net_of_table d) within) (all index (net_of_table d) (omega arith))
