-- The release that a payload leads to, and the way there, by the lines of the rule.
use Rattle.std.proofs.Common.{◌≡◌, ℕ, ◌⊎◌, inl, inr, ◌&&◌, ◌||◌, not, Bool, true, false, List, length, Option, Some, refl, sym, ap, ◌∙◌}
use Rattle.std.specs.List.{slice_get}
use Rattle.std.specs.Option.{option_map, option_map_or}
use Rattle.std.proofs.lemmas.Bool.{and_parts, false≢true, not-true}
use Rattle.std.proofs.lemmas.Slice.Eq.{bytes_eq-Decides}
use Rattle.catalogue.specs.Versions.{is_below}
use Rattle.catalogue.specs.Lookups.{is_release}
use Rattle.catalogue.specs.declared.content.App.{App}
use Rattle.catalogue.specs.declared.content.Cohort.{Cohort}
use Rattle.catalogue.specs.declared.content.Diff.{Diff}
use Rattle.catalogue.specs.declared.content.Release.{Release}
use Rattle.payload_graph.specs.Chains.{destination_of, index_of}
use Rattle.payload_graph.specs.Permitted.{end_of, is_offered_at, jumps_stone, leads_down, leads_up, permits_differ, permits_from, permits_full, rolls_back, starts_at}
use Rattle.payload_graph.specs.Places.{version_at}
use Rattle.payload_graph.specs.declared.payload.Payload.{Payload}
use Rattle.payload_graph.specs.declared.payload.Payload.TheVariants.{Full, Differ}
use Rattle.payload_graph.specs.declared.payload.TrackKey.{TrackKey}
use Rattle.payload_graph.specs.declared.place.Place.{Place}
use Rattle.payload_graph.specs.declared.place.Place.TheVariants.{At, Outside}
use Rattle.theorems.proofs.ItemLemmas.{Passes-option_map_or, find-position}

-- a way leads up, not above the target, or down from above it
abbrev pub IsWay : List ℕ → List ℕ → List ℕ → Type 0
IsWay target from to =
    ((is_below from to ≡ true) × (is_below target to ≡ false))
    ⊎ ((is_below target from ≡ true) × (is_below to from ≡ true))

or_cases : (a b : Bool) → (a || b) ≡ true → (a ≡ true) ⊎ (b ≡ true)
or_cases true b is = inl refl
or_cases false b is = inr is

IsWay-up :
    (releases : List Release) (target from to : List ℕ) →
    leads_up releases target from to ≡ true → IsWay target from to
IsWay-up releases target from to up =
    let parts = and_parts (is_below from to) (not (is_below target to) && not (jumps_stone releases from to)) up in
    let low = and_parts (not (is_below target to)) (not (jumps_stone releases from to)) parts.1 in
    inl (parts.0, not-true (is_below target to) low.0)

IsWay-down : (target from to : List ℕ) → leads_down target from to ≡ true → IsWay target from to
IsWay-down target from to down = inr (and_parts (is_below target from) (is_below to from) down)

IsWay-full :
    (releases : List Release) (cohort : Cohort) (key : TrackKey) (target from : List ℕ) (to : Release) →
    permits_full releases cohort key target from to ≡ true → IsWay target from to.version
IsWay-full releases cohort key target from to permitted =
    let parts = and_parts (is_offered_at cohort key.pin from to)
    (leads_up releases target from to.version || (rolls_back cohort key && leads_down target from to.version)) permitted in
    elim (or_cases (leads_up releases target from to.version) (rolls_back cohort key && leads_down target from to.version) parts.1) [
      | inl up ↦ IsWay-up releases target from to.version up
      | inr down ↦ IsWay-down target from to.version (and_parts (rolls_back cohort key) (leads_down target from to.version) down).1
    ]

-- the release that a payload leads to, and the way there from a place
pub record Leads (app : App) (target : List ℕ) (place : Place) (payload : Payload) : Type 0 where
  pub release : Release
  pub there : slice_get app.releases (destination_of app payload) ≡ Some release
  pub from : List ℕ
  pub from_is : version_at app.releases place ≡ Some from
  pub way : IsWay target from release.version

Leads-full :
    (app : App) (cohort : Cohort) (key : TrackKey) (target : List ℕ) (place : Place) (to : ℕ) →
    permits_from app cohort key target place (Full to) ≡ true → Leads app target place (Full to)
Leads-full app cohort key target place to permitted =
    let end = Passes-option_map_or (λ (release : Release). option_map_or
    (λ (from : List ℕ). permits_full app.releases cohort key target from release) (version_at app.releases place) false)
    (slice_get app.releases to) permitted in
    let start = Passes-option_map_or (λ (from : List ℕ). permits_full app.releases cohort key target from end.item)
    (version_at app.releases place) end.passed in
    record {
      release = end.item;
      there = end.is;
      from = start.item;
      from_is = start.is;
      way = IsWay-full app.releases cohort key target start.item end.item start.passed;
    }

-- a differential starts at a release of its version
pub starts-version :
    (releases : List Release) (place : Place) (diff : Diff) →
    starts_at releases place diff ≡ true → version_at releases place ≡ Some diff.from
starts-version releases (Outside version) diff starts = absurd (false≢true starts)
starts-version releases (At from) diff starts =
    let start = Passes-option_map_or (is_release diff.from) (slice_get releases from) starts in
    let same : diff.from ≡ start.item.version = (bytes_eq-Decides diff.from start.item.version).0 start.passed in
    ap (λ (o : Option Release). option_map (λ (there : Release). there.version) o) start.is
    ∙ ap (λ (v : List ℕ). Some v) (sym same)

Leads-differ :
    (app : App) (cohort : Cohort) (key : TrackKey) (target : List ℕ) (place : Place) (index : ℕ) →
    permits_from app cohort key target place (Differ index) ≡ true → Leads app target place (Differ index)
Leads-differ app cohort key target place index permitted =
    let found = Passes-option_map_or (λ (diff : Diff). starts_at app.releases place diff && permits_differ app.releases cohort key.pin
    target diff) (slice_get app.diffs index) permitted in
    let diff = found.item in
    let parts = and_parts (starts_at app.releases place diff) (permits_differ app.releases cohort key.pin target diff) found.passed in
    let end = Passes-option_map_or (λ (to : Release). is_offered_at cohort key.pin diff.from to && leads_up app.releases target diff.from to.version)
    (end_of app.releases diff) parts.1 in
    let up = (and_parts (is_offered_at cohort key.pin diff.from end.item) (leads_up app.releases target diff.from end.item.version) end.passed).1 in
    let to : destination_of app (Differ index) ≡ index_of app.releases diff.to =
    ap (λ (o : Option Diff). option_map_or (λ (d : Diff). index_of app.releases d.to) o (length app.releases)) found.is in
    record {
      release = end.item;
      there = ap (λ n. slice_get app.releases n) to ∙ find-position (is_release diff.to) app.releases end.item end.is;
      from = diff.from;
      from_is = starts-version app.releases place diff parts.0;
      way = IsWay-up app.releases target diff.from end.item.version up;
    }

pub Leads-from :
    (app : App) (cohort : Cohort) (key : TrackKey) (target : List ℕ) (place : Place) (payload : Payload) →
    permits_from app cohort key target place payload ≡ true → Leads app target place payload
Leads-from app cohort key target place (Full to) permitted = Leads-full app cohort key target place to permitted
Leads-from app cohort key target place (Differ index) permitted = Leads-differ app cohort key target place index
    permitted
