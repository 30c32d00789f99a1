-- What the flags of a track without a rule say of its releases, and the first rule that frees each.
use Rattle.std.proofs.Common.{◌≡◌, ℕ, ◌+◌, ◌<◌, ◌≤◌, ◌≢◌, inl, inr, Bool, true, false, cond, List, [], ◌∷◌, length, replicate, set, Some, sym, ap, ◌∙◌, subst, arith, get_or-set_other, get_or-set_same}
use Rattle.std.specs.List.{slice_get}
use Rattle.std.proofs.lemmas.Bool.{cases_eq}
use Rattle.std.proofs.lemmas.List.{get_or-replicate, length-map, length-replicate}
use Rattle.catalogue.specs.declared.content.App.{App}
use Rattle.catalogue.specs.declared.content.Cohort.{Cohort}
use Rattle.catalogue.specs.declared.content.Release.{Release}
use Rattle.cohorts.specs.declared.pin.Pin.{Pin}
use Rattle.cohorts.specs.declared.pin.Pin.TheVariants as pin
use Rattle.payload_graph.specs.Laws.{FullsArePermitted}
use Rattle.payload_graph.specs.Net.{Net, doors_of, net_with}
use Rattle.payload_graph.specs.Permitted.{rolls_back}
use Rattle.payload_graph.specs.declared.door.Door.{Door}
use Rattle.payload_graph.specs.declared.payload.TrackKey.{TrackKey}
use Rattle.reviews.proofs.ChainLemmas.{IsChainedAs-routed, length-doors_of}
use Rattle.reviews.proofs.LiftLemmas.{HasRelease-target, IsLifted-track, pin-lifted}
use Rattle.reviews.specs.Lifts.{lifted, lifted_cohort, lifted_key, lifted_release, lifted_releases, target_version}
use Rattle.reviews.specs.Reasons.{AreFirst, AreFreedAs, reason_at}
use Rattle.reviews.specs.Routes.{AreRouted, IsRoute, IsRouted, flag_at, leads, net_of_roads}
use Rattle.reviews.specs.Tracks.{IsTrackOf}
use Rattle.reviews.specs.declared.cause.Cause.{Cause}
use Rattle.reviews.specs.declared.cause.Reason.{Reason}
use Rattle.reviews.specs.declared.cause.Reason.TheVariants.{Alone, Several}
use Rattle.reviews.specs.declared.roads.Roads.{Roads}

-- two graphs of the same target and the same doors have the same ways, whatever their keys
record IsAlike (first second : Net) : Type 0 where
  target : first.target ≡ second.target
  rollback : first.rollback ≡ second.rollback
  doors : first.doors ≡ second.doors

leads-alike : (first second : Net) → IsAlike first second → (from to : ℕ) → leads first from to ≡ leads second from to
leads-alike first second alike from to =
    ap (λ n. leads (record first { target = n }) from to) alike.target
    ∙ ap (λ b. leads (record first { target = second.target; rollback = b }) from to) alike.rollback
    ∙ ap (λ (doors : List Door). leads (record first { target = second.target; rollback = second.rollback; doors = doors }) from to) alike.doors

IsRoute-alike : (first second : Net) → IsAlike first second → (route : List ℕ) (from : ℕ) → IsRoute first from route → IsRoute second from route
IsRoute-alike first second alike [] from at = at ∙ alike.target
IsRoute-alike first second alike (to ∷ more) from (step, rest) =
    (sym (leads-alike first second alike from to) ∙ step, IsRoute-alike first second alike more to rest)

IsAlike-back : (first second : Net) → IsAlike first second → IsAlike second first
IsAlike-back first second alike = record { target = sym alike.target; rollback = sym alike.rollback; doors = sym alike.doors }

IsRouted-alike : (first second : Net) → IsAlike first second → (from : ℕ) (flag : Bool) → IsRouted first from flag → IsRouted second from flag
IsRouted-alike first second alike from true routed = (routed.0, IsRoute-alike first second alike routed.0 from routed.1)
IsRouted-alike first second alike from false routed = λ route at.
    routed route (IsRoute-alike second first (IsAlike-back first second alike) route from at)

-- the flags of a track's full packages without a rule
pub AreFreedAs-roads :
    FullsArePermitted → (cause : Cause) (app : App) (key : TrackKey) (cohort : Cohort) (target : ℕ) (roads : Roads) (flags : List Bool) →
    IsTrackOf app key cohort target →
    roads.target ≡ target →
    roads.rollback ≡ rolls_back (lifted_cohort cause cohort) (lifted_key cause key) →
    ((release : Release) → slice_get app.releases target ≡ Some release →
    roads.doors.items ≡ doors_of (lifted_cohort cause cohort) pin.Any (lifted_releases cause release.version app.releases)) →
    length flags ≡ length roads.doors.items →
    AreRouted (net_of_roads roads) flags 0 (length roads.doors.items) →
    AreFreedAs app key cause flags
AreFreedAs-roads fulls cause app key cohort target roads flags track aim rollback doors sized routed =
    let has = HasRelease-target app cohort key target track.target_there in
    let is = IsLifted-track cause app key cohort target has.release track has.there has.targeted in
    let made = lifted cause app key in
    let own = lifted_key cause key in
    let net = net_with made own (lifted_cohort cause cohort) target [] in
    let same_doors : roads.doors.items ≡ net.doors =
    doors has.release has.there
    ∙ ap (λ v. doors_of (lifted_cohort cause cohort) pin.Any (lifted_releases cause v app.releases)) (sym is.version)
    ∙ ap (λ (p : Pin). doors_of (lifted_cohort cause cohort) p made.releases) (sym (pin-lifted cause key ∙ track.pin)) in
    let alike : IsAlike (net_of_roads roads) net = record { target = aim; rollback = rollback; doors = same_doors } in
    let size = length-map app.releases (lifted_release cause (target_version app key)) in
    let count = length-doors_of (lifted_cohort cause cohort) own.pin made.releases in
    let all = ap (λ (items : List Door). length items) same_doors in
    record {
      sized = sized ∙ all ∙ count ∙ size;
      each = λ release within.
          let inside : release < length made.releases = omega arith in
          IsChainedAs-routed fulls made own (lifted_cohort cause cohort) target (lifted_release cause (target_version app key) has.release) is.track is.target_there
          release inside (flag_at flags release)
          (IsRouted-alike (net_of_roads roads) net alike release (flag_at flags release) (routed release (omega arith) (omega arith)));
    }

-- no rule is looked at yet
pub AreFirst-none : (app : App) (key : TrackKey) → AreFirst app key [] (replicate (length app.releases) Several)
AreFirst-none app key =
    record {
      sized = length-replicate (length app.releases) Several;
      first = λ release within stuck. get_or-replicate (length app.releases) release Several Several within;
    }

-- the reasons before an index are marked by their flags, and the others are as before
pub record AreMarked (cause : Cause) (flags : List Bool) (old now : List Reason) (index : ℕ) : Type 0 where
  pub before :
      (release : ℕ) → release < index → reason_at now release ≡ cond (flag_at flags release) (Alone cause) (reason_at old release)
  pub after : (release : ℕ) → index ≤ release → reason_at now release ≡ reason_at old release

pub AreMarked-next :
    (cause : Cause) (flags : List Bool) (old now next : List Reason) (index : ℕ) (flag : Bool) →
    index < length now → flag_at flags index ≡ flag → next ≡ cond flag (set now index (Alone cause)) now →
    AreMarked cause flags old now index → AreMarked cause flags old next (index + 1)
AreMarked-next cause flags old now next index true within flagged is marked =
    record {
      before = λ release less. elim (cases_eq release index) [
        | inl same ↦
            subst (λ n. reason_at next n ≡ cond (flag_at flags n) (Alone cause) (reason_at old n)) (sym same)
            (ap (λ (xs : List Reason). reason_at xs index) is ∙ get_or-set_same now index (Alone cause) Several within
            ∙ sym (ap (λ b. cond b (Alone cause) (reason_at old index)) flagged))
        | inr apart ↦
            ap (λ (xs : List Reason). reason_at xs release) is ∙ get_or-set_other now index release (Alone cause) Several apart
            ∙ marked.before release (omega arith)
      ];
      after = λ release more.
          let apart : release ≢ index = omega arith in
          ap (λ (xs : List Reason). reason_at xs release) is ∙ get_or-set_other now index release (Alone cause) Several apart
          ∙ marked.after release (omega arith);
    }
AreMarked-next cause flags old now next index false within flagged is marked =
    record {
      before = λ release less. elim (cases_eq release index) [
        | inl same ↦
            subst (λ n. reason_at next n ≡ cond (flag_at flags n) (Alone cause) (reason_at old n)) (sym same)
            (ap (λ (xs : List Reason). reason_at xs index) is ∙ marked.after index (omega arith)
            ∙ sym (ap (λ b. cond b (Alone cause) (reason_at old index)) flagged))
        | inr apart ↦ ap (λ (xs : List Reason). reason_at xs release) is ∙ marked.before release (omega arith)
      ];
      after = λ release more. ap (λ (xs : List Reason). reason_at xs release) is ∙ marked.after release (omega arith);
    }
