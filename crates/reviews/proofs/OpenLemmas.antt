-- Tracks whose target's full package leads there from each release if downgrades are allowed.
use Rattle.std.proofs.Common.{◌≡◌, ℕ, zero, suc, ◌+◌, ◌-◌, ◌<◌, ◌≤◌, ◌&&◌, ◌==◌, not, inl, inr, Bool, true, false, cond, drop, take, List, [], ◌∷◌, get_or, length, map, replicate, Some, refl, sym, ap, ap₂, ◌∙◌, subst, arith, get_or-take, get_or-drop}
use Rattle.std.specs.List.{enumerate_from, list_all, list_any, slice_get}
use Rattle.std.proofs.lemmas.Bool.{and_from, and_parts, cases_eq, cases_lt, eqb-true, eq-eqb, false≢true, le-leb, lt-ltb}
use Rattle.std.proofs.lemmas.List.{get_or-map, get_or-replicate, length-drop, length-replicate, length-take-le}
use Rattle.std.proofs.lemmas.List.Folds.{list_any_at}
use Rattle.std.proofs.lemmas.List.FromFn.{get_or-enumerate_from, length-enumerate_from}
use Rattle.std.proofs.lemmas.Option.{get_or_from_slice_get, slice_get_within}
use Rattle.catalogue.specs.Lookups.{place_of}
use Rattle.catalogue.specs.declared.content.App.{App}
use Rattle.catalogue.specs.declared.content.Cohort.{Cohort}
use Rattle.catalogue.specs.declared.content.Release.{Release}
use Rattle.cohorts.specs.Offers.{is_offered}
use Rattle.cohorts.specs.declared.pin.Pin.{Pin}
use Rattle.cohorts.specs.declared.pin.Pin.TheVariants as pin
use Rattle.payload_graph.specs.Laws.{FullsArePermitted}
use Rattle.payload_graph.specs.Net.{Net, door_of, doors_of, net_with, opens, to_stone, window}
use Rattle.payload_graph.specs.Soundness.{AreNumbered, no_door}
use Rattle.payload_graph.specs.declared.door.Door.{Door}
use Rattle.payload_graph.specs.declared.payload.TrackKey.{TrackKey}
use Rattle.reviews.specs.Lifts.{is_open_way, lifted, lifted_cohort, lifted_key, lifted_release, lifted_releases, target_version}
use Rattle.reviews.specs.Reasons.{AreFreedAs, IsFreedAs}
use Rattle.reviews.specs.Routes.{IsRouted, leads}
use Rattle.reviews.specs.Tracks.{IsTrackOf}
use Rattle.reviews.specs.declared.cause.Cause.TheVariants.{Downgrade}
use Rattle.reviews.proofs.ChainLemmas.{AreNumbered-doors_of, IsChainedAs-routed, length-doors_of, numbered_door}
use Rattle.reviews.proofs.LiftLemmas.{HasRelease, HasRelease-target, IsLifted, IsLifted-track}
use Rattle.reviews.proofs.RouteLemmas.{window-slice}

-- items from an index on, or before one, pass if all do
list_all-drop : {A : Type 0} (p : A → Bool) (n : ℕ) (xs : List A) → list_all p xs ≡ true → list_all p (drop n xs) ≡ true
list_all-drop p zero xs all = all
list_all-drop p (suc n) [] all = refl
list_all-drop p (suc n) (x ∷ xs) all = list_all-drop p n xs (and_parts (p x) (list_all p xs) all).1

list_all-take : {A : Type 0} (p : A → Bool) (n : ℕ) (xs : List A) → list_all p xs ≡ true → list_all p (take n xs) ≡ true
list_all-take p zero xs all = refl
list_all-take p (suc n) [] all = refl
list_all-take p (suc n) (x ∷ xs) all =
    let parts = and_parts (p x) (list_all p xs) all in
    and_from (p x) (list_all p (take n xs)) parts.0 (list_all-take p n xs parts.1)

abbrev no_stone : Door → Bool
no_stone door = not door.stone

-- doors without a stone end at none
to_stone-none : (doors : List Door) → list_all no_stone doors ≡ true → to_stone doors ≡ doors
to_stone-none [] none = refl
to_stone-none (door ∷ doors) none =
    let parts = and_parts (no_stone door) (list_all no_stone doors) none in
    ap (λ b. door ∷ cond b [] (to_stone doors)) (is_no door.stone parts.0) ∙ ap (λ (ds : List Door). door ∷ ds) (to_stone-none doors parts.1)
  where
    is_no : (b : Bool) → not b ≡ true → b ≡ false
    is_no true is = absurd (false≢true is)
    is_no false is = refl

-- a graph whose target's door opens from each release, without stones, that leads down
module _ (net : Net) (within : net.target < length net.doors) (numbered : AreNumbered net.doors) (low : (get_or net.doors net.target no_door).floor ≡ 0) (offered : (get_or net.doors net.target no_door).offered ≡ true) (none : list_all no_stone net.doors ≡ true) (down : net.rollback ≡ true) where
  abbrev door : Door
  door = get_or net.doors net.target no_door

  abbrev enters : ℕ → Door → Bool
  enters from d = opens from d && d.to == net.target

  enters-door : (from : ℕ) → enters from door ≡ true
  enters-door from =
      let floor : door.floor ≤ from = let at = low in omega arith in
      and_from (opens from door) (door.to == net.target)
      (and_from _ door.offered (le-leb door.floor from floor) offered)
      (eq-eqb door.to net.target (numbered net.target within))

  leads-below : (from : ℕ) → from < net.target → leads net from net.target ≡ true
  leads-below from below =
      let count = net.target + 1 - (from + 1) in
      let rest = drop (from + 1) net.doors in
      let slice = take count rest in
      let stoneless = list_all-take no_stone count rest (list_all-drop no_stone (from + 1) net.doors none) in
      let is : window net from ≡ slice = window-slice net from (omega arith) ∙ to_stone-none slice stoneless in
      let index = net.target - (from + 1) in
      let last : from + 1 + index ≡ net.target = omega arith in
      let at : get_or slice index no_door ≡ door =
      get_or-take count rest index no_door (omega arith) ∙ get_or-drop (from + 1) net.doors index no_door
      ∙ ap (λ n. get_or net.doors n no_door) last in
      let size = length-drop (from + 1) net.doors in
      let sized = length-take-le count rest (omega arith) in
      ap (λ (ds : List Door). list_any (enters from) ds) is
      ∙ list_any_at (enters from) slice index no_door (omega arith) (ap (enters from) at ∙ enters-door from)

  leads-above : (from : ℕ) → net.target < from → from < length net.doors → leads net from net.target ≡ true
  leads-above from above there =
      let is : window net from ≡ take from net.doors =
      ap (λ b. cond b (cond net.rollback (take from net.doors) []) (to_stone (drop (from + 1) (take (net.target + 1) net.doors)))) (lt-ltb net.target from above)
      ∙ ap (λ b. cond b (take from net.doors) []) down in
      let sized = length-take-le from net.doors (omega arith) in
      ap (λ (ds : List Door). list_any (enters from) ds) is
      ∙ list_any_at (enters from) (take from net.doors) net.target no_door (omega arith)
      (ap (enters from) (get_or-take from net.doors net.target no_door above) ∙ enters-door from)

  IsRouted-open : (from : ℕ) → from < length net.doors → IsRouted net from true
  IsRouted-open from there = elim (cases_eq from net.target) [
    | inl same ↦ ([], same)
    | inr apart ↦ elim (cases_lt from net.target) [
      | inl below ↦ (net.target ∷ [], (leads-below from below, refl))
      | inr past ↦ (net.target ∷ [], (leads-above from (omega arith) there, refl))
    ]
  ]

releases-same : (target : List ℕ) (releases : List Release) → lifted_releases Downgrade target releases ≡ releases
releases-same target [] = refl
releases-same target (release ∷ releases) = ap (λ (rs : List Release). release ∷ rs) (releases-same target releases)

-- the doors of releases without a stone are none
doors-stoneless :
    (cohort : Cohort) (p : Pin) (all : List Release) (n : ℕ) (releases : List Release) →
    list_all (λ (release : Release). not release.stone) releases ≡ true →
    list_all no_stone (map (numbered_door cohort p all) (enumerate_from n releases)) ≡ true
doors-stoneless cohort p all n [] none = refl
doors-stoneless cohort p all n (release ∷ releases) none =
    let parts = and_parts (not release.stone) (list_all (λ (r : Release). not r.stone) releases) none in
    and_from (not release.stone) (list_all no_stone (map (numbered_door cohort p all) (enumerate_from (n + 1) releases))) parts.0
    (doors-stoneless cohort p all (n + 1) releases parts.1)

-- the door of a release
door-at :
    (cohort : Cohort) (p : Pin) (releases : List Release) (index : ℕ) (release : Release) → slice_get releases index ≡ Some release →
    get_or (doors_of cohort p releases) index no_door ≡ door_of cohort p releases index release
door-at cohort p releases index release there =
    let within = slice_get_within releases index release there in
    let size = length-enumerate_from 0 releases in
    let zeroth : 0 + index ≡ index = omega arith in
    get_or-map (numbered_door cohort p releases) (enumerate_from 0 releases) index (0, release) no_door (omega arith)
    ∙ ap (numbered_door cohort p releases) (get_or-enumerate_from 0 releases index (0, release) within)
    ∙ ap₂ (λ n (r : Release). door_of cohort p releases n r) zeroth (get_or_from_slice_get releases index release release there)

-- a track of an app with such a release as its target
module _ (fulls : FullsArePermitted) (app : App) (key : TrackKey) (cohort : Cohort) (target : ℕ) (release : Release) (track : IsTrackOf app key cohort target) (there : slice_get app.releases target ≡ Some release) (way : is_open_way cohort app.releases release ≡ true) where
  has : HasRelease app cohort key target
  has = HasRelease-target app cohort key target track.target_there

  is : IsLifted Downgrade app key cohort target has.release
  is = IsLifted-track Downgrade app key cohort target has.release track has.there has.targeted

  abbrev made : App
  made = lifted Downgrade app key

  abbrev own : Cohort
  own = lifted_cohort Downgrade cohort

  abbrev net : Net
  net = net_with made (lifted_key Downgrade key) own target []

  same : made.releases ≡ app.releases
  same = releases-same (target_version app key) app.releases

  doors : net.doors ≡ doors_of own pin.Any app.releases
  doors =
      ap (λ (p : Pin). doors_of own p made.releases) track.pin ∙ ap (λ (rs : List Release). doors_of own pin.Any rs) same

  size : length net.doors ≡ length app.releases
  size = ap (λ (ds : List Door). length ds) doors ∙ length-doors_of own pin.Any app.releases

  parts : (list_all (λ (r : Release). not r.stone) app.releases ≡ true) × ((is_offered cohort pin.Any release && place_of release.floor app.releases == 0) ≡ true)
  parts = and_parts (list_all (λ (r : Release). not r.stone) app.releases) (is_offered cohort pin.Any release && place_of release.floor app.releases == 0) way

  ways : (is_offered cohort pin.Any release ≡ true) × ((place_of release.floor app.releases == 0) ≡ true)
  ways = and_parts (is_offered cohort pin.Any release) (place_of release.floor app.releases == 0) parts.1

  at : get_or net.doors target no_door ≡ door_of own pin.Any app.releases target release
  at = ap (λ (ds : List Door). get_or ds target no_door) doors ∙ door-at own pin.Any app.releases target release there

  inside : target < length net.doors
  inside = let count = size in let less = slice_get_within app.releases target release there in omega arith

  low : (get_or net.doors target no_door).floor ≡ 0
  low = ap (λ (d : Door). d.floor) at ∙ eqb-true (place_of release.floor app.releases) 0 ways.1

  offered : (get_or net.doors target no_door).offered ≡ true
  offered = ap (λ (d : Door). d.offered) at ∙ ways.0

  stoneless : list_all no_stone net.doors ≡ true
  stoneless = ap (list_all no_stone) doors ∙ doors-stoneless own pin.Any app.releases 0 app.releases parts.0

  numbered : AreNumbered net.doors
  numbered = subst AreNumbered (sym doors) (AreNumbered-doors_of own pin.Any app.releases release)

  freed : (index : ℕ) → index < length app.releases → IsFreedAs app key index Downgrade true
  freed index within =
      let count = size in
      let held = ap (λ (rs : List Release). length rs) same in
      IsChainedAs-routed fulls made (lifted_key Downgrade key) own target (lifted_release Downgrade (target_version app key) has.release) is.track
      is.target_there index (omega arith) true
      (IsRouted-open net inside numbered low offered stoneless refl index (omega arith))

  -- each release of the track is freed if downgrades are allowed
  pub AreFreedAs-open : AreFreedAs app key Downgrade (replicate (length app.releases) true)
  AreFreedAs-open =
      record {
        sized = length-replicate (length app.releases) true;
        each = λ index within.
            subst (IsFreedAs app key index Downgrade) (sym (get_or-replicate (length app.releases) index true false within)) (freed index within);
      }
