-- In a valid content each target is a release.
use Rattle.std.proofs.Common.{◌≡◌, ℕ, zero, suc, ◌+◌, ◌<◌, ◌&&◌, ◌||◌, Bool, true, false, cond, not, nat_le, List, [], ◌∷◌, length, reverse, Option, None, Some, refl, sym, ap, ◌∙◌, arith}
use Rattle.std.specs.List.{find, list_all, list_any, position, position_or_len, slice_get}
use Rattle.std.specs.Option.{is_some, option_and_then, option_map}
use Rattle.std.proofs.lemmas.Bool.{and_parts, lt-ltb}
use Rattle.std.proofs.lemmas.List.Sorted.{IsPermutation-reverse, list_any-IsPermutation}
use Rattle.std.proofs.lemmas.Slice.Eq.{bytes_eq-Decides}
use Rattle.catalogue.specs.Forms.{is_cohort_name}
use Rattle.catalogue.specs.Limits.{max_share}
use Rattle.catalogue.specs.Lookups.{has_release, is_release}
use Rattle.catalogue.specs.Validity.{is_released, is_valid_cohort}
use Rattle.catalogue.specs.declared.content.App.{App}
use Rattle.catalogue.specs.declared.content.Cohort.{Cohort}
use Rattle.catalogue.specs.declared.content.Release.{Release}
use Rattle.cohorts.specs.Offers.{highest_offered, is_any, is_offered_within, pinned_target, target_of, track_target}
use Rattle.cohorts.specs.declared.pin.Pin.{Pin}
use Rattle.cohorts.specs.declared.track.Lane.{Lane}
use Rattle.cohorts.specs.declared.track.Lane.TheVariants.{Target, Held}
use Rattle.payload_graph.specs.Chains.{cohort_target}
use Rattle.payload_graph.specs.declared.payload.TrackKey.{TrackKey}
use Rattle.payload_graph.specs.Net.{net_in, net_of}

-- an item that passes has a position
position_within : {A : Type 0} (p : A → Bool) (xs : List A) → list_any p xs ≡ true → position_or_len p xs < length xs
position_within p [] none = absurd cc
position_within p (x ∷ xs) some = cases (p x) some (position_within p xs)
  where
    cases :
        (b : Bool) → (b || list_any p xs) ≡ true → (list_any p xs ≡ true → position_or_len p xs < length xs) →
        cond (not b) (1 + position_or_len p xs) 0 < length (x ∷ xs)
    cases true passes rest = omega arith
    cases false others rest = let below = rest others in omega arith

list_all-slice_get : {A : Type 0} (p : A → Bool) (xs : List A) (index : ℕ) (x : A) → list_all p xs ≡ true → slice_get xs index ≡ Some x → p x ≡ true
list_all-slice_get p [] index x all there = absurd cc
list_all-slice_get p (y ∷ ys) zero x all there =
    let same : y ≡ x = cc in
    ap p (sym same) ∙ (and_parts (p y) (list_all p ys) all).0
list_all-slice_get p (y ∷ ys) (suc index) x all there =
    list_all-slice_get p ys index x (and_parts (p y) (list_all p ys) all).1 there

has_position : {A : Type 0} (p : A → Bool) (xs : List A) → list_any p xs ≡ true → is_some (position p xs) ≡ true
has_position p xs some =
    let below = lt-ltb (position_or_len p xs) (length xs) (position_within p xs some) in
    ap (λ (b : Bool). is_some (cond b (Some (position_or_len p xs)) None)) below

-- what is found passes any test that it passes
any-found : {A : Type 0} (p f : A → Bool) (xs : List A) (x : A) → find p xs ≡ Some x → f x ≡ true → list_any f xs ≡ true
any-found p f [] x none passes = absurd cc
any-found {A} p f (y ∷ ys) x found passes = cases (p y) found (any-found p f ys x)
  where
    cases :
        (b : Bool) → cond b (Some y) (find p ys) ≡ Some x → (find p ys ≡ Some x → f x ≡ true → list_any f ys ≡ true) →
        (f y || list_any f ys) ≡ true
    cases true first rest = or_left (ap f (some_item first) ∙ passes)
      where
        some_item : Some y ≡ Some x → y ≡ x
        some_item same = cc

        or_left : f y ≡ true → (f y || list_any f ys) ≡ true
        or_left is = ap (λ (b : Bool). b || list_any f ys) is
    cases false others rest = or_right (f y) (rest others passes)
      where
        or_right : (b : Bool) → list_any f ys ≡ true → (b || list_any f ys) ≡ true
        or_right true is = refl
        or_right false is = is

-- the highest offered release is one
released-highest :
    (releases : List Release) (cohort : Cohort) (pin : Pin) (limit version : List ℕ) →
    highest_offered releases cohort pin limit ≡ Some version → has_release releases version ≡ true
released-highest releases cohort pin limit version found = cases (find (is_offered_within cohort pin limit) (reverse releases)) refl found
  where
    cases :
        (highest : Option Release) → find (is_offered_within cohort pin limit) (reverse releases) ≡ highest →
        option_map (λ release. release.version) highest ≡ Some version → has_release releases version ≡ true
    cases None is none = cc
    cases (Some release) is some =
        let same : release.version ≡ version = cc in
        list_any-IsPermutation (is_release version) releases (reverse releases) (IsPermutation-reverse releases)
        ∙ any-found (is_offered_within cohort pin limit) (is_release version) (reverse releases) release is
        ((bytes_eq-Decides version release.version).1 (sym same))

-- the target of a valid cohort's lane is a release
released-target :
    (releases : List Release) (cohort : Cohort) (lane : Lane) (version : List ℕ) →
    is_valid_cohort releases cohort ≡ true → target_of cohort lane ≡ Some version → has_release releases version ≡ true
released-target releases cohort lane version valid set = by_lane lane set
  where
    whole : ((is_cohort_name cohort.name && nat_le cohort.share max_share && is_released releases cohort.target) ≡ true) × (is_released releases cohort.held ≡ true)
    whole = and_parts (is_cohort_name cohort.name && nat_le cohort.share max_share && is_released releases cohort.target) (is_released releases cohort.held) valid

    target : is_released releases cohort.target ≡ true
    target = (and_parts (is_cohort_name cohort.name && nat_le cohort.share max_share) (is_released releases cohort.target) whole.0).1

    by_lane : (l : Lane) → target_of cohort l ≡ Some version → has_release releases version ≡ true
    by_lane Target is = sym (ap (is_released releases) is) ∙ target
    by_lane Held is = sym (ap (is_released releases) is) ∙ whole.1

-- so is that of its tracks
released-track :
    (releases : List Release) (cohort : Cohort) (key : TrackKey) (version : List ℕ) →
    is_valid_cohort releases cohort ≡ true → track_target releases cohort key.lane key.pin ≡ Some version →
    has_release releases version ≡ true
released-track releases cohort key version valid found = cases (target_of cohort key.lane) refl found
  where
    pinned :
        (limit : List ℕ) → target_of cohort key.lane ≡ Some limit → (b : Bool) →
        cond b (Some limit) (highest_offered releases cohort key.pin limit) ≡ Some version → has_release releases version ≡ true
    pinned limit is true same = released-target releases cohort key.lane version valid (is ∙ same)
    pinned limit is false same = released-highest releases cohort key.pin limit version same

    cases :
        (lane : Option (List ℕ)) → target_of cohort key.lane ≡ lane →
        option_and_then (pinned_target releases cohort key.pin) lane ≡ Some version → has_release releases version ≡ true
    cases None is none = cc
    cases (Some limit) is some = pinned limit is (is_any key.pin) some

-- a track of a valid cohort has a graph if it has a target
is_some-track :
    (app : App) (cohort : Cohort) (key : TrackKey) → is_valid_cohort app.releases cohort ≡ true →
    is_some (track_target app.releases cohort key.lane key.pin)
    ≡ is_some (option_map (net_of app key cohort) (cohort_target app cohort key))
is_some-track app cohort key valid = cases (track_target app.releases cohort key.lane key.pin) refl
  where
    at : (found : Option ℕ) → is_some found ≡ true → true ≡ is_some (option_map (net_of app key cohort) found)
    at None none = absurd cc
    at (Some index) some = refl

    cases :
        (found : Option (List ℕ)) → track_target app.releases cohort key.lane key.pin ≡ found →
        is_some found
        ≡ is_some (option_map (net_of app key cohort) (option_and_then (λ version. position (is_release version) app.releases) found))
    cases None is = refl
    cases (Some version) is =
        at (position (is_release version) app.releases)
        (has_position (is_release version) app.releases (released-track app.releases cohort key version valid is))

-- a track of an app whose cohorts are valid has a graph if it has a target in its cohort
pub is_some-net_in :
    (app : App) (key : TrackKey) (cohort : Cohort) → list_all (is_valid_cohort app.releases) app.cohorts ≡ true →
    slice_get app.cohorts key.cohort ≡ Some cohort →
    is_some (track_target app.releases cohort key.lane key.pin) ≡ is_some (net_in app key)
is_some-net_in app key cohort valid there =
    is_some-track app cohort key (list_all-slice_get (is_valid_cohort app.releases) app.cohorts key.cohort cohort valid there)
    ∙ sym (ap (λ (found : Option Cohort). is_some (option_and_then (λ c. option_map (net_of app key c) (cohort_target app c key)) found)) there)
