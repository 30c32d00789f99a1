-- Where a permitted payload leads: to a release of the app, nearer the target.
use Rattle.std.proofs.Common.{◌≡◌, ℕ, ◌<◌, inl, inr, true, List, length, Option, None, Some, refl, sym, ap, ◌∙◌, subst, arith}
use Rattle.std.specs.List.{position, slice_get}
use Rattle.std.specs.Option.{option_and_then, option_map, option_map_or}
use Rattle.std.proofs.lemmas.Option.{slice_get_past, slice_get_within}
use Rattle.std.proofs.lemmas.Slice.Eq.{bytes_eq-Decides}
use Rattle.catalogue.specs.VersionLaws.{BelowIsIrreflexive, BelowIsTransitive}
use Rattle.values.specs.Ordered.{ascend}
use Rattle.catalogue.specs.Lookups.{is_release}
use Rattle.catalogue.specs.Validity.{is_release_below}
use Rattle.catalogue.specs.declared.content.App.{App}
use Rattle.catalogue.specs.declared.content.Cohort.{Cohort}
use Rattle.catalogue.specs.declared.content.Diff.{Diff}
use Rattle.catalogue.specs.declared.content.Release.{Release}
use Rattle.cohorts.specs.Offers.{track_target}
use Rattle.payload_graph.specs.Chains.{IsAtTarget, destination_of, index_of, cohort_target, target_index}
use Rattle.payload_graph.specs.Permitted.{permits, permits_from, permits_in}
use Rattle.payload_graph.specs.Places.{version_at}
use Rattle.payload_graph.specs.declared.payload.Payload.{Payload}
use Rattle.payload_graph.specs.declared.payload.Payload.TheVariants.{Differ}
use Rattle.payload_graph.specs.declared.payload.TrackKey.{TrackKey}
use Rattle.payload_graph.specs.declared.place.Place.{Place}
use Rattle.payload_graph.specs.declared.place.Place.TheVariants.{At}
use Rattle.payload_graph.specs.Soundness.{LeadsNearer}
use Rattle.theorems.proofs.ItemLemmas.{Passes, Passes-option_map_or, position-Passes}
use Rattle.theorems.proofs.LeadsLemmas.{IsWay, Leads, Leads-from}
use Rattle.theorems.proofs.OrderLemmas.{index-below, index-not_below}

-- what a permitted payload is permitted by: its track's cohort and target
pub record IsPermitted (app : App) (key : TrackKey) (place : Place) (payload : Payload) : Type 0 where
  pub cohort : Cohort
  pub cohort_there : slice_get app.cohorts key.cohort ≡ Some cohort
  pub target : List ℕ
  pub targeted : track_target app.releases cohort key.lane key.pin ≡ Some target
  pub leads : Leads app target place payload

pub IsPermitted-permits :
    (app : App) (key : TrackKey) (place : Place) (payload : Payload) →
    permits app key place payload ≡ true → IsPermitted app key place payload
IsPermitted-permits app key place payload permitted =
    let served = Passes-option_map_or (λ (cohort : Cohort). permits_in app cohort key place payload)
    (slice_get app.cohorts key.cohort) permitted in
    let cohort = served.item in
    let targeted = Passes-option_map_or (λ (target : List ℕ). permits_from app cohort key target place
    payload) (track_target app.releases cohort key.lane key.pin) served.passed in
    record {
      cohort = cohort;
      cohort_there = served.is;
      target = targeted.item;
      targeted = targeted.is;
      leads = Leads-from app cohort key targeted.item place payload targeted.passed;
    }

-- a payload that leads to a release is in range
pub destination-within :
    (app : App) (key : TrackKey) (place : Place) (payload : Payload) →
    permits app key place payload ≡ true → destination_of app payload < length app.releases
destination-within app key place payload permitted =
    let leads = (IsPermitted-permits app key place payload permitted).leads in
    slice_get_within app.releases (destination_of app payload) leads.release leads.there

-- and so is its differential
pub diff-there :
    (app : App) (index : ℕ) (release : Release) →
    slice_get app.releases (destination_of app (Differ index)) ≡ Some release →
    Passes (λ (diff : Diff). true) (slice_get app.diffs index)
diff-there app index release there = cases (slice_get app.diffs index) refl
  where
    cases : (diff : Option Diff) → slice_get app.diffs index ≡ diff → Passes (λ (d : Diff). true) diff
    cases None none =
        let past : destination_of app (Differ index) ≡ length app.releases =
        ap (λ (o : Option Diff). option_map_or (λ (d : Diff). index_of app.releases d.to) o (length app.releases)) none in
        let nothing = slice_get_past app.releases (destination_of app (Differ index)) (omega arith) in
        let clash : None ≡ Some release = sym nothing ∙ there in
        cc
    cases (Some diff) is = record { item = diff; is = refl; passed = refl }

-- the release at the target of a track
record HasTarget (app : App) (version : List ℕ) (target : ℕ) : Type 0 where
  release : Release
  there : slice_get app.releases target ≡ Some release
  spelled : version ≡ release.version

HasTarget-index :
    (app : App) (key : TrackKey) (place : Place) (payload : Payload) (target : ℕ) →
    (permitted : IsPermitted app key place payload) →
    target_index app key ≡ Some target → HasTarget app permitted.target target
HasTarget-index app key place payload target permitted is =
    let by_cohort = ap (λ (o : Option Cohort). option_and_then (λ (cohort : Cohort). cohort_target app cohort key) o)
    permitted.cohort_there in
    let by_lane = ap (λ (o : Option (List ℕ)). option_and_then (λ (version : List ℕ). position (is_release version) app.releases)
    o) permitted.targeted in
    let found : position (is_release permitted.target) app.releases ≡ Some target = sym by_lane ∙ sym by_cohort ∙ is in
    let passes = position-Passes (is_release permitted.target) app.releases target found in
    record {
      release = passes.item;
      there = passes.is;
      spelled = (bytes_eq-Decides permitted.target passes.item.version).0 passes.passed;
    }

-- the release at a place
record HasRelease (releases : List Release) (index : ℕ) (version : List ℕ) : Type 0 where
  release : Release
  there : slice_get releases index ≡ Some release
  spelled : version ≡ release.version

HasRelease-version :
    (releases : List Release) (index : ℕ) (version : List ℕ) →
    version_at releases (At index) ≡ Some version → HasRelease releases index version
HasRelease-version releases index version is = cases (slice_get releases index) refl is
  where
    cases :
        (there : Option Release) → slice_get releases index ≡ there →
        option_map (λ (r : Release). r.version) there ≡ Some version → HasRelease releases index version
    cases None there is = cc
    cases (Some release) there is =
        let spelled : version ≡ release.version = cc in
        record { release = release; there = there; spelled = spelled }

module _ (irreflexive : BelowIsIrreflexive) (transitive : BelowIsTransitive) (app : App)
    (ascends : ascend is_release_below app.releases ≡ true) (key : TrackKey) (target : ℕ)
    (target_is : target_index app key ≡ Some target) where
  nearer :
      (from to : ℕ) (start end goal : Release) →
      slice_get app.releases from ≡ Some start → slice_get app.releases to ≡ Some end →
      slice_get app.releases target ≡ Some goal →
      IsWay goal.version start.version end.version → LeadsNearer target from to
  nearer from to start end goal at_from at_to at_target (inl up) =
      inl (
        index-below irreflexive transitive app.releases ascends from to start end at_from at_to up.0,
        index-not_below irreflexive transitive app.releases ascends target to goal end at_target at_to up.1,
      )
  nearer from to start end goal at_from at_to at_target (inr down) =
      inr (
        index-below irreflexive transitive app.releases ascends target from goal start at_target at_from down.0,
        index-below irreflexive transitive app.releases ascends to from end start at_to at_from down.1,
      )

  -- a payload that is permitted from a release leads nearer the target
  pub LeadsNearer-permits :
      (from : ℕ) (payload : Payload) → permits app key (At from) payload ≡ true →
      LeadsNearer target from (destination_of app payload)
  LeadsNearer-permits from payload permitted =
      let by = IsPermitted-permits app key (At from) payload permitted in
      let goal = HasTarget-index app key (At from) payload target by target_is in
      let start = HasRelease-version app.releases from by.leads.from by.leads.from_is in
      let way : IsWay goal.release.version start.release.version by.leads.release.version =
      subst (λ (v : List ℕ). IsWay v start.release.version by.leads.release.version) goal.spelled
      (subst (λ (v : List ℕ). IsWay by.target v by.leads.release.version) start.spelled by.leads.way) in
      nearer from (destination_of app payload) start.release by.leads.release goal.release start.there by.leads.there goal.there
      way

  -- the target is in range
  pub target-within :
      (place : Place) (payload : Payload) → permits app key place payload ≡ true → target < length app.releases
  target-within place payload permitted =
      let by = IsPermitted-permits app key place payload permitted in
      let goal = HasTarget-index app key place payload target by target_is in
      slice_get_within app.releases target goal.release goal.there

-- nothing is permitted at the target
pub away-permits :
    BelowIsIrreflexive → BelowIsTransitive →
    (app : App) → ascend is_release_below app.releases ≡ true →
    (key : TrackKey) (place : Place) (payload : Payload) →
    permits app key place payload ≡ true → ¬ (IsAtTarget app key place)
away-permits irreflexive transitive app ascends key place payload permitted at = cases (target_index app key) refl at
  where
    cases : (o : Option ℕ) → target_index app key ≡ o → option_map (λ (r : ℕ). At r) o ≡ Some place → ⊥
    cases None is at = cc
    cases (Some target) is at =
        let same : place ≡ At target = cc in
        let own = subst (λ (p : Place). permits app key p payload ≡ true) same permitted in
        elim (LeadsNearer-permits irreflexive transitive app ascends key target is target payload own) [
          | inl up ↦ omega arith
          | inr down ↦ omega arith
        ]
