-- A track without one of its rules: its releases are those of before by version, and its target is the same.
use Rattle.std.proofs.Common.{◌≡◌, ℕ, ◌+◌, ◌<◌, ◌&&◌, not, Bool, cond, List, [], ◌∷◌, get_or, length, ltb, map, Option, None, Some, refl, sym, ap, ◌∙◌, subst, arith}
use Rattle.std.specs.List.{enumerate_from, list_all, position, position_or_len, prefix_len, slice_get}
use Rattle.std.specs.Option.{option_and_then, option_map, option_map_or}
use Rattle.std.proofs.lemmas.List.{length-map}
use Rattle.std.proofs.lemmas.List.Folds.{list_all-map}
use Rattle.std.proofs.lemmas.Bool.{ltb-true}
use Rattle.std.proofs.lemmas.List.Quantifiers.{position-Some}
use Rattle.std.proofs.lemmas.Option.{cond_some, slice_get-get_or, slice_get-map}
use Rattle.std.proofs.lemmas.Slice.Eq.{bytes_eq-Decides}
use Rattle.values.specs.Ordered.{ascend}
use Rattle.catalogue.specs.Versions.{is_below}
use Rattle.catalogue.specs.Lookups.{is_release, place_of}
use Rattle.catalogue.specs.Validity.{is_release_below}
use Rattle.catalogue.specs.declared.content.App.{App}
use Rattle.catalogue.specs.declared.content.Cohort.{Cohort}
use Rattle.catalogue.specs.declared.content.Release.{Release}
use Rattle.cohorts.specs.Offers.{is_offered, target_of, track_target}
use Rattle.cohorts.specs.declared.pin.Pin.{Pin}
use Rattle.cohorts.specs.declared.pin.Pin.TheVariants as pin
use Rattle.cohorts.specs.declared.track.Lane.{Lane}
use Rattle.cohorts.specs.declared.track.Lane.TheVariants.{Target, Held}
use Rattle.payload_graph.specs.Chains.{cohort_target, target_index}
use Rattle.payload_graph.specs.Net.{door_of, doors_of, version_of_index}
use Rattle.payload_graph.specs.declared.payload.TrackKey.{TrackKey}
use Rattle.payload_graph.specs.Laws.{IsTrack}
use Rattle.reviews.proofs.ChainLemmas.{numbered_door}
use Rattle.reviews.proofs.ListLemmas.{enumerate_from-map, map-mapped}
use Rattle.reviews.specs.Lifts.{lifted, lifted_cohort, lifted_key, lifted_release, lifted_releases, target_version}
use Rattle.reviews.specs.Tracks.{IsTrackOf}
use Rattle.reviews.specs.declared.cause.Cause.{Cause}
use Rattle.reviews.specs.declared.cause.Cause.TheVariants.{Withdrawn, Audience, Stone, Floor, Downgrade}

-- a release keeps its version
pub version-lifted : (cause : Cause) (target : List ℕ) (release : Release) → (lifted_release cause target release).version ≡ release.version
version-lifted Withdrawn target release = refl
version-lifted Audience target release = refl
version-lifted Stone target release = refl
version-lifted Floor target release = refl
version-lifted Downgrade target release = refl

size-lifted : (cause : Cause) (target : List ℕ) (release : Release) → (lifted_release cause target release).size ≡ release.size
size-lifted Withdrawn target release = refl
size-lifted Audience target release = refl
size-lifted Stone target release = refl
size-lifted Floor target release = refl
size-lifted Downgrade target release = refl

-- a key keeps its cohort, its lane and its pin
cohort-lifted : (cause : Cause) (key : TrackKey) → (lifted_key cause key).cohort ≡ key.cohort
cohort-lifted Withdrawn key = refl
cohort-lifted Audience key = refl
cohort-lifted Stone key = refl
cohort-lifted Floor key = refl
cohort-lifted Downgrade key = refl

lane-lifted : (cause : Cause) (key : TrackKey) → (lifted_key cause key).lane ≡ key.lane
lane-lifted Withdrawn key = refl
lane-lifted Audience key = refl
lane-lifted Stone key = refl
lane-lifted Floor key = refl
lane-lifted Downgrade key = refl

pub pin-lifted : (cause : Cause) (key : TrackKey) → (lifted_key cause key).pin ≡ key.pin
pin-lifted Withdrawn key = refl
pin-lifted Audience key = refl
pin-lifted Stone key = refl
pin-lifted Floor key = refl
pin-lifted Downgrade key = refl

-- a cohort keeps its targets
target_of-lifted : (cause : Cause) (cohort : Cohort) (lane : Lane) → target_of (lifted_cohort cause cohort) lane ≡ target_of cohort lane
target_of-lifted Withdrawn cohort lane = refl
target_of-lifted Audience cohort lane = refl
target_of-lifted Stone cohort lane = refl
target_of-lifted Floor cohort lane = refl
target_of-lifted Downgrade cohort Target = refl
target_of-lifted Downgrade cohort Held = refl

prefix_len-map :
    {A B : Type 0} (f : A → B) (p : B → Bool) (q : A → Bool) → ((x : A) → p (f x) ≡ q x) → (xs : List A) →
    prefix_len p (map f xs) ≡ prefix_len q xs
prefix_len-map f p q same [] = refl
prefix_len-map f p q same (x ∷ xs) =
    ap (λ b. cond b (1 + prefix_len p (map f xs)) 0) (same x)
    ∙ ap (λ n. cond (q x) (1 + n) 0) (prefix_len-map f p q same xs)

list_all-same : {A : Type 0} (p q : A → Bool) → ((x : A) → p x ≡ q x) → (xs : List A) → list_all p xs ≡ list_all q xs
list_all-same p q same [] = refl
list_all-same p q same (x ∷ xs) =
    ap (λ b. b && list_all p xs) (same x) ∙ ap (λ b. q x && b) (list_all-same p q same xs)

module _ (cause : Cause) (target : List ℕ) where
  abbrev lift : Release → Release
  lift release = lifted_release cause target release

  abbrev number_lifted : ℕ × Release → ℕ × Release
  number_lifted numbered = (numbered.0, lift numbered.1)

  -- the place of a version is the same
  pub place_of-lifted : (version : List ℕ) (releases : List Release) → place_of version (lifted_releases cause target releases) ≡ place_of version releases
  place_of-lifted version releases =
      prefix_len-map lift (λ (r : Release). not (not (is_below r.version version))) (λ (r : Release). not (not (is_below r.version version)))
      (λ r. ap (λ v. not (not (is_below v version))) (version-lifted cause target r)) releases

  position-lifted : (version : List ℕ) (releases : List Release) → position (is_release version) (lifted_releases cause target releases) ≡ position (is_release version) releases
  position-lifted version releases =
      let same =
      prefix_len-map lift (λ (r : Release). not (is_release version r)) (λ (r : Release). not (is_release version r))
      (λ r. ap (λ v. not (is_release version (record r { version = v }))) (version-lifted cause target r)) releases in
      let size = length-map releases lift in
      ap (λ n. cond (ltb n (length (lifted_releases cause target releases))) (Some n) None) same
      ∙ ap (λ n. cond (ltb (position_or_len (is_release version) releases) n) (Some (position_or_len (is_release version) releases)) None) size

  -- releases ascend as before
  pub ascend-lifted : (releases : List Release) → ascend is_release_below (lifted_releases cause target releases) ≡ ascend is_release_below releases
  ascend-lifted [] = refl
  ascend-lifted (release ∷ releases) =
      ap (λ b. b && ascend is_release_below (lifted_releases cause target releases))
      (list_all-map (is_release_below (lift release)) lift releases
      ∙ list_all-same (λ (r : Release). is_release_below (lift release) (lift r)) (is_release_below release)
      (λ r. ap (λ v. is_below v (lift r).version) (version-lifted cause target release) ∙ ap (λ v. is_below release.version v) (version-lifted cause target r))
      releases)
      ∙ ap (λ b. list_all (is_release_below release) releases && b) (ascend-lifted releases)

  -- the doors of the releases, each of a release as before
  pub doors_of-lifted :
      (cohort : Cohort) (pin : Pin) (releases : List Release) →
      map (λ (numbered : ℕ × Release). door_of cohort pin (lifted_releases cause target releases) numbered.0 (lift numbered.1)) (enumerate_from 0 releases)
      ≡ doors_of cohort pin (lifted_releases cause target releases)
  doors_of-lifted cohort pin releases =
      map-mapped number_lifted (numbered_door cohort pin (lifted_releases cause target releases)) (enumerate_from 0 releases)
      ∙ ap (λ (items : List (ℕ × Release)). map (numbered_door cohort pin (lifted_releases cause target releases)) items)
      (sym (enumerate_from-map lift 0 releases))

  -- the door of a release
  pub door_of-lifted :
      (cohort : Cohort) (pin : Pin) (releases : List Release) (to : ℕ) (release : Release) (offered stone : Bool) (floor : ℕ) →
      offered ≡ is_offered cohort pin (lift release) → stone ≡ (lift release).stone → floor ≡ place_of (lift release).floor releases →
      record { to = to; bytes = release.size; offered = offered; stone = stone; floor = floor }
      ≡ door_of cohort pin (lifted_releases cause target releases) to (lift release)
  door_of-lifted cohort pin releases to release offered stone floor is_offered_so is_stone_so is_floor_so =
      let size = size-lifted cause target release in
      let place = place_of-lifted (lift release).floor releases in
      cc

-- a release keeps its floor without another rule
pub floor-lifted :
    (cause : Cause) (target : List ℕ) (release : Release) → (cause ≡ Floor → ⊥) → (lifted_release cause target release).floor ≡ release.floor
floor-lifted Withdrawn target release other = refl
floor-lifted Audience target release other = refl
floor-lifted Stone target release other = refl
floor-lifted Floor target release other = absurd (other refl)
floor-lifted Downgrade target release other = refl

-- the target of a track whose clients have no pin is its lane's
track_target-any :
    (xs ys : List Release) (c d : Cohort) (lane : Lane) (key_pin : Pin) → key_pin ≡ pin.Any → target_of c lane ≡ target_of d lane →
    track_target xs c lane key_pin ≡ track_target ys d lane key_pin
track_target-any xs ys c d lane key_pin any same =
    subst (λ (p : Pin). track_target xs c lane p ≡ track_target ys d lane p) (sym any)
    (ap (λ (o : Option (List ℕ)). option_and_then (λ v. Some v) o) same)

-- what is known of a lifted track
pub record IsLifted (cause : Cause) (app : App) (key : TrackKey) (cohort : Cohort) (target : ℕ) (release : Release) : Type 0 where
  pub version : target_version app key ≡ release.version
  pub track : IsTrack (lifted cause app key) (lifted_key cause key) (lifted_cohort cause cohort) target (lifted_release cause (target_version app key) release)
  pub target_there : cohort_target (lifted cause app key) (lifted_cohort cause cohort) (lifted_key cause key) ≡ Some target

pub IsLifted-track :
    (cause : Cause) (app : App) (key : TrackKey) (cohort : Cohort) (target : ℕ) (release : Release) →
    IsTrackOf app key cohort target → slice_get app.releases target ≡ Some release →
    track_target app.releases cohort key.lane key.pin ≡ Some release.version →
    IsLifted cause app key cohort target release
IsLifted-track cause app key cohort target release track there targeted =
    let index : target_index app key ≡ Some target =
    ap (λ (o : Option Cohort). option_and_then (λ (c : Cohort). cohort_target app c key) o) track.cohort_there ∙ track.target_there in
    let version : target_version app key ≡ release.version =
    ap (λ (o : Option ℕ). option_map_or (version_of_index app.releases) o []) index
    ∙ ap (λ (o : Option Release). option_map_or (λ (r : Release). r.version) o []) there in
    let meant = target_version app key in
    let kept : track_target (lifted cause app key).releases (lifted_cohort cause cohort) (lifted_key cause key).lane (lifted_key cause key).pin
    ≡ track_target app.releases cohort key.lane key.pin =
    ap (λ (l : Lane). track_target (lifted cause app key).releases (lifted_cohort cause cohort) l (lifted_key cause key).pin) (lane-lifted cause key)
    ∙ ap (λ (p : Pin). track_target (lifted cause app key).releases (lifted_cohort cause cohort) key.lane p) (pin-lifted cause key)
    ∙ track_target-any (lifted cause app key).releases app.releases (lifted_cohort cause cohort) cohort key.lane key.pin track.pin (target_of-lifted cause cohort key.lane) in
    record {
      version = version;
      track = record {
        ascending = ascend-lifted cause meant app.releases ∙ track.valid.releases_ascend;
        cohort_there =
            ap (λ n. slice_get (lifted cause app key).cohorts n) (cohort-lifted cause key)
            ∙ slice_get-map (lifted_cohort cause) app.cohorts key.cohort
            ∙ ap (λ (o : Option Cohort). option_map (lifted_cohort cause) o) track.cohort_there;
        release_there =
            slice_get-map (lifted_release cause meant) app.releases target
            ∙ ap (λ (o : Option Release). option_map (lifted_release cause meant) o) there;
        targeted = kept ∙ targeted ∙ ap (λ v. Some v) (sym (version-lifted cause meant release));
      };
      target_there =
          ap (λ (o : Option (List ℕ)). option_and_then (λ v. position (is_release v) (lifted cause app key).releases) o) (kept ∙ targeted)
          ∙ position-lifted cause meant release.version app.releases
          ∙ sym (ap (λ (o : Option (List ℕ)). option_and_then (λ v. position (is_release v) app.releases) o) targeted)
          ∙ track.target_there;
    }

-- the release at the index of a target
pub record HasRelease (app : App) (cohort : Cohort) (key : TrackKey) (target : ℕ) : Type 0 where
  pub release : Release
  pub within : target < length app.releases
  pub there : slice_get app.releases target ≡ Some release
  pub targeted : track_target app.releases cohort key.lane key.pin ≡ Some release.version

some_release : (releases : List Release) (k : ℕ) → k < length releases → Release
some_release [] k within = absurd (omega arith)
some_release (release ∷ releases) k within = release

pub HasRelease-target :
    (app : App) (cohort : Cohort) (key : TrackKey) (target : ℕ) →
    cohort_target app cohort key ≡ Some target → HasRelease app cohort key target
HasRelease-target app cohort key target found = cases (track_target app.releases cohort key.lane key.pin) refl found
  where
    cases :
        (sought : Option (List ℕ)) → track_target app.releases cohort key.lane key.pin ≡ sought →
        option_and_then (λ version. position (is_release version) app.releases) sought ≡ Some target →
        HasRelease app cohort key target
    cases None is found = cc
    cases (Some version) is found =
        let size = length app.releases in
        let at = position_or_len (is_release version) app.releases in
        let parts = cond_some (ltb at size) at target found in
        let within : target < length app.releases = subst (λ n. n < length app.releases) parts.1 (ltb-true at size parts.0) in
        let d = some_release app.releases target within in
        let found_at = position-Some (is_release version) app.releases target d found in
        let equal : version ≡ (get_or app.releases target d).version = (bytes_eq-Decides version (get_or app.releases target d).version).0 found_at.1 in
        record {
          release = get_or app.releases target d;
          within = within;
          there = slice_get-get_or app.releases target d within;
          targeted = is ∙ ap (λ (v : List ℕ). Some v) equal;
        }
