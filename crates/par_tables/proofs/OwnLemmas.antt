-- The tracks of a content are tracks of its tables.
use Rattle.std.proofs.Common.{◌≡◌, ℕ, suc, ◌+◌, ◌&&◌, Bool, true, false, cond, List, [], ◌∷◌, Option, None, Some, refl, sym, ap, ◌∙◌, subst, arith}
use Rattle.std.specs.List.{All, slice_get}
use Rattle.std.specs.Option.{option_and_then, option_map}
use Rattle.std.proofs.lemmas.List.Elements.{All-append, All-cons, All-filter, All-nil}
use Rattle.std.proofs.lemmas.Option.{get_or_from_slice_get, slice_get-get_or, slice_get_within}
use Rattle.catalogue.specs.declared.content.App.{App}
use Rattle.catalogue.specs.declared.content.Cohort.{Cohort}
use Rattle.cohorts.specs.declared.pin.Pin.TheVariants as pin
use Rattle.cohorts.specs.declared.track.Lane.{Lane}
use Rattle.cohorts.specs.declared.track.Lane.TheVariants.{Target, Held}
use Rattle.payload_graph.specs.Chains.{cohort_target}
use Rattle.payload_graph.specs.declared.payload.TrackKey.{TrackKey}
use Rattle.payload_graph.specs.Net.{Net, net_among, net_in, net_of}
use Rattle.par_tables.proofs.TargetLemmas.{All-targeted}
use Rattle.par_tables.specs.Marks.{IsTrack}
use Rattle.par_tables.specs.Pieces.{has_target, tracks_of}
use Rattle.par_tables.specs.Tracks.{app_keys, cohort_keys, joined_from, keys_of, lane_keys}

-- what holds of each item's list, by where the item is, holds of all
All-joined_at :
    {A B : Type 0} (P : B → Type 0) (f : ℕ → A → List B) (index : ℕ) (xs : List A) →
    ((place : ℕ) (x : A) → slice_get xs place ≡ Some x → All P (f (index + place) x)) → All P (joined_from f index xs)
All-joined_at P f index [] each = All-nil P
All-joined_at {A} {B} P f index (x ∷ xs) each =
    let first : index + 0 ≡ index = omega arith in
    All-append P (f index x) (joined_from f (index + 1) xs)
    (subst (λ n. All P (f n x)) first (each 0 x (slice_get-get_or (x ∷ xs) 0 x (omega arith))))
    (All-joined_at P f (index + 1) xs (λ place y there.
    let count : index + suc place ≡ index + 1 + place = omega arith in
    subst (λ n. All P (f n y)) count (each (suc place) y (later x xs place y there))))
  where
    later : (x : A) (xs : List A) (place : ℕ) (y : A) → slice_get xs place ≡ Some y → slice_get (x ∷ xs) (suc place) ≡ Some y
    later x xs place y there =
        let within = slice_get_within xs place y there in
        slice_get-get_or (x ∷ xs) (suc place) y (omega arith) ∙ ap (λ z. Some z) (get_or_from_slice_get xs place y y there)

-- the clients of a key have no pin, and it allows a downgrade only if its cohort does
record IsOwn (apps : List App) (key : TrackKey) : Type 0 where
  pin : key.pin ≡ pin.Any
  rollback : (net : Net) → net_among apps key ≡ Some net → net.rollback ≡ key.rollback

rollback_of :
    (apps : List App) (key : TrackKey) (app : App) (cohort : Cohort) (net : Net) →
    slice_get apps key.app ≡ Some app → slice_get app.cohorts key.cohort ≡ Some cohort →
    (cohort.rollback && key.rollback) ≡ key.rollback → net_among apps key ≡ Some net → net.rollback ≡ key.rollback
rollback_of apps key app cohort net at place allowed there =
    in_target (cohort_target app cohort key)
    (sym (ap (option_and_then (λ (c : Cohort). option_map (net_of app key c) (cohort_target app c key))) place)
    ∙ sym (ap (option_and_then (λ (a : App). net_in a key)) at) ∙ there)
  where
    in_target : (found : Option ℕ) → option_map (net_of app key cohort) found ≡ Some net → net.rollback ≡ key.rollback
    in_target None is = cc
    in_target (Some target) is =
        let same : net_of app key cohort target ≡ net = cc in
        sym (ap (λ (n : Net). n.rollback) same) ∙ allowed

All-lane_keys :
    (apps : List App) (app index : ℕ) (a : App) (cohort : Cohort) (lane : Lane) →
    slice_get apps app ≡ Some a → slice_get a.cohorts index ≡ Some cohort → All (IsOwn apps) (lane_keys app index cohort lane)
All-lane_keys apps app index a cohort lane at place =
    All-cons (IsOwn apps) (key false) (cond cohort.rollback (key true ∷ []) []) (own false (none cohort.rollback)) (others cohort.rollback refl)
  where
    key : Bool → TrackKey
    key rolls = record { app = app; cohort = index; lane = lane; rollback = rolls; pin = pin.Any }

    none : (b : Bool) → (b && false) ≡ false
    none true = refl
    none false = refl

    own : (rolls : Bool) → (cohort.rollback && rolls) ≡ rolls → IsOwn apps (key rolls)
    own rolls allowed = record { pin = refl; rollback = λ net there. rollback_of apps (key rolls) a cohort net at place allowed there }

    others : (b : Bool) → cohort.rollback ≡ b → All (IsOwn apps) (cond b (key true ∷ []) [])
    others true allows = All-cons (IsOwn apps) (key true) [] (own true (ap (λ b. b && true) allows)) (All-nil (IsOwn apps))
    others false allows = All-nil (IsOwn apps)

All-own : (apps : List App) → All (IsOwn apps) (keys_of apps)
All-own apps =
    All-joined_at (IsOwn apps) app_keys 0 apps (λ app a at.
    let own_app : app ≡ 0 + app = omega arith in
    subst (λ n. All (IsOwn apps) (app_keys n a)) own_app
    (All-joined_at (IsOwn apps) (cohort_keys app) 0 a.cohorts (λ index cohort place.
    let own_cohort : index ≡ 0 + index = omega arith in
    subst (λ n. All (IsOwn apps) (cohort_keys app n cohort)) own_cohort
    (All-append (IsOwn apps) (lane_keys app index cohort Target) (lane_keys app index cohort Held)
    (All-lane_keys apps app index a cohort Target at place) (All-lane_keys apps app index a cohort Held at place)))))

pub All-tracks : (apps : List App) → All (IsTrack apps) (tracks_of apps)
All-tracks apps place d within =
    let own = All-filter (has_target apps) (IsOwn apps) (keys_of apps) (All-own apps) place d within in
    record { target = All-targeted apps (keys_of apps) place d within; pin = own.pin; rollback = own.rollback }
