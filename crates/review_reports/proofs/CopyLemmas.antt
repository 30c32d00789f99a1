-- A review that a change leaves as it is has no changes.
use Rattle.std.proofs.Common.{◌≡◌, ℕ, ◌&&◌, not, true, false, cond, List, [], ◌∷◌, get_or, length, Option, None, Some, IfSome, refl, sym, ap, ap₂, ◌∙◌, subst}
use Rattle.std.specs.List.{cons_option, filter_map, range_with_len, slice_get}
use Rattle.std.specs.Option.{is_some, option_and_then, option_map, option_map_or}
use Rattle.std.specs.Str.{bytes_eq}
use Rattle.std.proofs.lemmas.Bool.{false≢true, eq-eqb}
use Rattle.std.proofs.lemmas.List.Elements.{All-from_recursion}
use Rattle.std.proofs.lemmas.Option.{get_or_from_slice_get, slice_get_within}
use Rattle.std.proofs.lemmas.Slice.Eq.{bytes_eq-Decides}
use Rattle.values.specs.Ordered.{ascend}
use Rattle.catalogue.specs.VersionLaws.{BelowIsIrreflexive}
use Rattle.catalogue.specs.Validity.{IsValid, IsValidApp, is_release_below}
use Rattle.catalogue.specs.declared.content.App.{App}
use Rattle.catalogue.specs.declared.content.Cohort.{Cohort}
use Rattle.catalogue.specs.declared.content.Diff.{Diff}
use Rattle.catalogue.specs.declared.content.Release.{Release}
use Rattle.cohorts.specs.Offers.{track_target}
use Rattle.payload_graph.specs.Permitted.{permits, permits_differ, permits_from, permits_full, permits_in, starts_at}
use Rattle.payload_graph.specs.Places.{version_at}
use Rattle.payload_graph.specs.declared.payload.Payload.{Payload}
use Rattle.payload_graph.specs.declared.payload.Payload.TheVariants.{Full, Differ}
use Rattle.payload_graph.specs.declared.payload.TrackKey.{TrackKey}
use Rattle.payload_graph.specs.declared.place.Place.{Place}
use Rattle.payload_graph.specs.declared.place.Place.TheVariants.{At}
use Rattle.review_reports.specs.Changes.{change_at, change_from, changes_between, changes_of_pair, clients_of, is_changed, is_same_form, is_same_payload, is_same_version, version_to, was_at}
use Rattle.reviews.specs.Copies.{HasSource, IsCopy}
use Rattle.reviews.specs.Reviews.{AreOutcomes, IsOutcome, IsTrackReview}
use Rattle.review_reports.specs.declared.change.Change.{Change}
use Rattle.reviews.specs.declared.outcome.Outcome.{Outcome}
use Rattle.reviews.specs.declared.outcome.Outcome.TheVariants.{Here, Next, Stuck}
use Rattle.reviews.specs.declared.review.TrackReview.{TrackReview}
use Rattle.review_reports.proofs.VersionLemmas.{position-there}

-- a permitted payload is there
version_to-permitted :
    (app : App) (key : TrackKey) (place : Place) (payload : Payload) → permits app key place payload ≡ true →
    is_some (version_to app payload) ≡ true
version_to-permitted app key place payload permitted = by_cohort (slice_get app.cohorts key.cohort) permitted
  where
    by_payload :
        (cohort : Cohort) (target : List ℕ) (p : Payload) → permits_from app cohort key target place p ≡ true →
        is_some (version_to app p) ≡ true
    by_payload cohort target (Full release) is = full (slice_get app.releases release) is
      where
        full :
            (there : Option Release) →
            option_map_or
            (λ (to : Release). option_map_or (λ from. permits_full app.releases cohort key target from to) (version_at app.releases place) false)
            there false ≡ true →
            is_some (option_map (λ (r : Release). r.version) there) ≡ true
        full None is = absurd (false≢true is)
        full (Some to) is = refl
    by_payload cohort target (Differ index) is = differ (slice_get app.diffs index) is
      where
        differ :
            (there : Option Diff) →
            option_map_or (λ (diff : Diff). starts_at app.releases place diff && permits_differ app.releases cohort key.pin target diff) there false
            ≡ true →
            is_some (option_map (λ (d : Diff). d.to) there) ≡ true
        differ None is = absurd (false≢true is)
        differ (Some diff) is = refl

    by_target :
        (cohort : Cohort) (target : Option (List ℕ)) →
        option_map_or (λ (version : List ℕ). permits_from app cohort key version place payload) target false ≡ true →
        is_some (version_to app payload) ≡ true
    by_target cohort None is = absurd (false≢true is)
    by_target cohort (Some target) is = by_payload cohort target payload is

    by_cohort :
        (cohort : Option Cohort) → option_map_or (λ (c : Cohort). permits_in app c key place payload) cohort false ≡ true →
        is_some (version_to app payload) ≡ true
    by_cohort None is = absurd (false≢true is)
    by_cohort (Some cohort) is = by_target cohort (track_target app.releases cohort key.lane key.pin) is

is_same_version-itself : (version : Option (List ℕ)) → is_some version ≡ true → is_same_version version version ≡ true
is_same_version-itself None there = absurd (false≢true there)
is_same_version-itself (Some version) there = (bytes_eq-Decides version version).1 refl

is_same_form-itself : (payload : Payload) → is_same_form payload payload ≡ true
is_same_form-itself (Full release) = refl
is_same_form-itself (Differ index) = refl

-- an outcome hasn't changed from itself
is_changed-itself :
    (app : App) (key : TrackKey) (release : ℕ) (outcome : Outcome) → IsOutcome app key release outcome →
    is_changed app app outcome outcome ≡ false
is_changed-itself app key release Here is = refl
is_changed-itself app key release (Stuck reason) is = refl
is_changed-itself app key release (Next payload sum) is =
    let there = version_to-permitted app key (At release) payload is.1.begins.permitted in
    let same : is_same_payload app app payload payload ≡ true =
    ap (λ b. b && is_same_version (version_to app payload) (version_to app payload)) (is_same_form-itself payload)
    ∙ is_same_version-itself (version_to app payload) there in
    ap₂ (λ b c. not (b && c)) (eq-eqb sum sum refl) same

filter_map-none : {A : Type 0} (f : ℕ → Option A) (xs : List ℕ) → ((x : ℕ) → f x ≡ None) → filter_map f xs ≡ []
filter_map-none f [] none = refl
filter_map-none {A} f (x ∷ xs) none =
    ap (λ (o : Option A). cons_option o (filter_map f xs)) (none x) ∙ filter_map-none f xs none

module _ (irreflexive : BelowIsIrreflexive) (app : App) (review : TrackReview) (up : ascend is_release_below app.releases ≡ true) (are : AreOutcomes app review.key review.outcomes) where
  -- no release of a track has changed from itself
  change_at-itself : (index : ℕ) → change_at app app review review index ≡ None
  change_at-itself index = cases (slice_get app.releases index) refl (slice_get review.outcomes index) refl
    where
      from : Release → Outcome → Option Change
      from release becomes =
          change_from app app (clients_of review.key review.key) review.target index becomes (was_at app review release.version)

      cases :
          (there : Option Release) → slice_get app.releases index ≡ there → (here : Option Outcome) → slice_get review.outcomes index ≡ here →
          option_and_then (λ (release : Release). option_and_then (from release) here) there ≡ None
      cases None there here is = refl
      cases (Some release) there None is = refl
      cases (Some release) there (Some outcome) is =
          let within = slice_get_within app.releases index release there in
          let own = get_or_from_slice_get app.releases index release release there in
          let equal : bytes_eq release.version (get_or app.releases index release).version ≡ true =
          (bytes_eq-Decides release.version (get_or app.releases index release).version).1 (ap (λ (r : Release). r.version) (sym own)) in
          let found = position-there irreflexive release.version app.releases index release up within equal in
          let was : was_at app review release.version ≡ Some outcome =
          ap (λ (o : Option ℕ). option_and_then (λ n. slice_get review.outcomes n) o) (sym found) ∙ is in
          let said = subst (IsOutcome app review.key index) (get_or_from_slice_get review.outcomes index outcome outcome is) (are.each index outcome within) in
          let clients = clients_of review.key review.key in
          ap (λ (o : Option Outcome). change_from app app clients review.target index outcome o) was
          ∙ ap (λ b. cond b (Some (record { clients = clients; release = index; was = Some outcome; becomes = outcome })) None)
          (is_changed-itself app review.key index outcome said)

  changes_between-itself : changes_between app app review review ≡ []
  changes_between-itself = filter_map-none (change_at app app review review) (range_with_len 0 (length app.releases)) change_at-itself

app_valid : (apps : List App) (index : ℕ) (app : App) → IsValid apps → slice_get apps index ≡ Some app → IsValidApp app
app_valid apps index app valid there =
    subst IsValidApp (get_or_from_slice_get apps index app app there)
    (All-from_recursion IsValidApp apps valid.apps_valid index app (slice_get_within apps index app there))

-- a copy has no changes from its source
pub changes_of_pair-copy :
    BelowIsIrreflexive → (before after : List App) (olds : List TrackReview) (new : TrackReview) (from : ℕ) → IsValid before →
    IsCopy before after olds new from → changes_of_pair before after new new ≡ []
changes_of_pair-copy irreflexive before after olds new from valid copy = cases (slice_get before new.key.app) refl
  where
    between : App → Option App → List Change
    between one there = option_map_or (λ (other : App). changes_between one other new new) there []

    cases :
        (there : Option App) → slice_get before new.key.app ≡ there →
        option_map_or (λ (one : App). between one (slice_get after new.key.app)) there [] ≡ []
    cases None there = refl
    cases (Some app) there =
        let kept = copy.kept ∙ there in
        let review : IsTrackReview app new = subst (λ (o : Option App). IfSome o (λ a. IsTrackReview a new)) kept copy.review in
        ap (λ (o : Option App). between app o) kept
        ∙ changes_between-itself irreflexive app new (app_valid before new.key.app app valid there).releases_ascend review.outcomes

-- the review at a source has no changes to its copy
pub changes_of_pair-source :
    BelowIsIrreflexive → (before after : List App) (olds : List TrackReview) (old new : TrackReview) (source : Option ℕ) (from : ℕ) →
    IsValid before → slice_get olds from ≡ Some old → HasSource before after olds new source → source ≡ Some from →
    changes_of_pair before after old new ≡ []
changes_of_pair-source irreflexive before after olds old new source from valid there has is =
    let copy : IsCopy before after olds new from = subst (λ (o : Option ℕ). HasSource before after olds new o) is has in
    let both : Some new ≡ Some old = sym copy.there ∙ there in
    let same : new ≡ old = cc in
    ap (λ (r : TrackReview). changes_of_pair before after r new) (sym same)
    ∙ changes_of_pair-copy irreflexive before after olds new from valid copy
