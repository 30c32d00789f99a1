-- The track of a graph: its cohort and its target.
use Rattle.std.proofs.Common.{◌≡◌, ℕ, ◌<◌, List, [], ◌∷◌, length, get_or, ltb, Option, None, Some, refl, sym, ap, ◌∙◌, subst, arith}
use Rattle.std.specs.List.{enumerate_from, position, position_or_len, slice_get}
use Rattle.std.specs.Option.{option_and_then, option_map}
use Rattle.std.proofs.lemmas.Bool.{ltb-true}
use Rattle.std.proofs.lemmas.List.{length-map}
use Rattle.std.proofs.lemmas.List.FromFn.{length-enumerate_from}
use Rattle.std.proofs.lemmas.List.Quantifiers.{position-Some}
use Rattle.std.proofs.lemmas.Option.{cond_some, slice_get-get_or}
use Rattle.std.proofs.lemmas.Slice.Eq.{bytes_eq-Decides}
use Rattle.catalogue.specs.Lookups.{is_release}
use Rattle.catalogue.specs.Validity.{IsValidApp}
use Rattle.catalogue.specs.declared.content.App.{App}
use Rattle.catalogue.specs.declared.content.Cohort.{Cohort}
use Rattle.catalogue.specs.declared.content.Release.{Release}
use Rattle.cohorts.specs.Offers.{track_target}
use Rattle.payload_graph.specs.Chains.{cohort_target}
use Rattle.payload_graph.specs.declared.payload.TrackKey.{TrackKey}
use Rattle.payload_graph.specs.Laws.{IsTrack}
use Rattle.payload_graph.specs.Net.{Net, door_of, net_in, net_of}

-- what the graph of a track is made of
pub record HasTrack (app : App) (key : TrackKey) (net : Net) : Type 0 where
  pub cohort : Cohort
  pub target : ℕ
  pub cohort_there : slice_get app.cohorts key.cohort ≡ Some cohort
  pub target_there : cohort_target app cohort key ≡ Some target
  pub is : net ≡ net_of app key cohort target

pub HasTrack-net_in :
    (app : App) (key : TrackKey) (net : Net) → net_in app key ≡ Some net → HasTrack app key net
HasTrack-net_in app key net there = in_cohort (slice_get app.cohorts key.cohort) refl there
  where
    to_target :
        (cohort : Cohort) → slice_get app.cohorts key.cohort ≡ Some cohort →
        (target : Option ℕ) → cohort_target app cohort key ≡ target →
        option_map (net_of app key cohort) target ≡ Some net → HasTrack app key net
    to_target cohort found None sought made = cc
    to_target cohort found (Some target) sought made =
        let same : net_of app key cohort target ≡ net = cc in
        record { cohort = cohort; target = target; cohort_there = found; target_there = sought; is = sym same }

    in_cohort :
        (cohort : Option Cohort) → slice_get app.cohorts key.cohort ≡ cohort →
        option_and_then (λ cohort. option_map (net_of app key cohort) (cohort_target app cohort key)) cohort ≡ Some net →
        HasTrack app key net
    in_cohort None found made = cc
    in_cohort (Some cohort) found made = to_target cohort found (cohort_target app cohort key) refl made

-- the release at a target has the version that is meant
record HasRelease (app : App) (cohort : Cohort) (key : TrackKey) (target : ℕ) : Type 0 where
  release : Release
  there : slice_get app.releases target ≡ Some release
  targeted : track_target app.releases cohort key.lane key.pin ≡ Some release.version

some_release : (releases : List Release) (k : ℕ) → k < length releases → Release
some_release [] k within = absurd (omega arith)
some_release (release ∷ releases) k within = release

HasRelease-target :
    (app : App) (cohort : Cohort) (key : TrackKey) (target : ℕ) →
    cohort_target app cohort key ≡ Some target → HasRelease app cohort key target
HasRelease-target app cohort key target found = cases (track_target app.releases cohort key.lane key.pin) refl found
  where
    cases :
        (sought : Option (List ℕ)) → track_target app.releases cohort key.lane key.pin ≡ sought →
        option_and_then (λ version. position (is_release version) app.releases) sought ≡ Some target →
        HasRelease app cohort key target
    cases None is found = cc
    cases (Some version) is found =
        let size = length app.releases in
        let at = position_or_len (is_release version) app.releases in
        let parts = cond_some (ltb at size) at target found in
        let less = ltb-true at size parts.0 in
        let same : at ≡ target = parts.1 in
        let within : target < length app.releases = subst (λ n. n < length app.releases) same less in
        let d = some_release app.releases target within in
        let release = get_or app.releases target d in
        let found_at = position-Some (is_release version) app.releases target d found in
        let equal : version ≡ release.version = (bytes_eq-Decides version release.version).0 found_at.1 in
        record {
          release = release;
          there = slice_get-get_or app.releases target d within;
          targeted = is ∙ ap (λ (v : List ℕ). Some v) equal;
        }

pub record HasIsTrack (app : App) (key : TrackKey) (cohort : Cohort) (target : ℕ) : Type 0 where
  pub release : Release
  pub track : IsTrack app key cohort target release

pub HasIsTrack-track :
    (app : App) (key : TrackKey) (net : Net) → IsValidApp app → (track : HasTrack app key net) →
    HasIsTrack app key track.cohort track.target
HasIsTrack-track app key net valid track =
    let has = HasRelease-target app track.cohort key track.target track.target_there in
    record {
      release = has.release;
      track = record {
        ascending = valid.releases_ascend;
        cohort_there = track.cohort_there;
        release_there = has.there;
        targeted = has.targeted;
      };
    }

-- a graph has a door for each release
pub length-doors :
    (app : App) (key : TrackKey) (net : Net) → HasTrack app key net → length net.doors ≡ length app.releases
length-doors app key net track =
    ap (λ (n : Net). length n.doors) track.is
    ∙ length-map (enumerate_from 0 app.releases) (λ (numbered : ℕ × Release). door_of track.cohort key.pin app.releases numbered.0 numbered.1)
    ∙ length-enumerate_from 0 app.releases
