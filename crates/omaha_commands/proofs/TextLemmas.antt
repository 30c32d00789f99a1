-- The table of a track that has a target has a certificate.
use Rattle.std.proofs.Common.{◌≡◌, ℕ, false, List, [], Option, Some, None, refl, sym, ap, ◌∙◌, subst}
use Rattle.std.specs.List.{position, slice_get}
use Rattle.std.specs.Option.{IsSome, is_some, option_and_then, option_map}
use Rattle.std.proofs.lemmas.List.Quantifiers.{position-Some}
use Rattle.std.proofs.lemmas.Option.{slice_get-get_or}
use Rattle.catalogue.specs.Lookups.{is_release}
use Rattle.catalogue.specs.declared.content.App.{App}
use Rattle.catalogue.specs.declared.content.Cohort.{Cohort}
use Rattle.catalogue.specs.declared.content.Release.{Release}
use Rattle.cohorts.specs.Offers.{track_target}
use Rattle.payload_graph.specs.Chains.{cohort_target}
use Rattle.payload_graph.specs.declared.payload.TrackKey.{TrackKey}
use Rattle.payload_graph.specs.Net.{Net, net_among, net_in, net_of}
use Rattle.price_cert.specs.declared.row.Prices.{Prices}
use Rattle.price_cert.specs.declared.row.Row.{Row}
use Rattle.certificates.specs.Strings.{string_among, string_of}

no_release : Release
no_release =
    record {
      version = [];
      spelled = [];
      name = [];
      size = 0;
      hash = [];
      stone = false;
      withdrawn = false;
      audience = None;
      floor = [];
    }

kept_some : {A B : Type 0} (f : A → B) (found : Option A) → IsSome found → IsSome (option_map f found)
kept_some f None some = some
kept_some f (Some item) some = refl

-- the release at an index that was found
release-there :
    (releases : List Release) (sought : Option (List ℕ)) (target : ℕ) →
    option_and_then (λ version. position (is_release version) releases) sought ≡ Some target →
    IsSome (slice_get releases target)
release-there releases None target found = cc
release-there releases (Some version) target found =
    ap is_some (slice_get-get_or releases target no_release (position-Some (is_release version) releases target no_release found).0)

module _ (apps : List App) (key : TrackKey) (rows : List Row) where
  by_target :
      (app : App) (cohort : Cohort) (target : Option ℕ) (net : Net) →
      ((index : ℕ) → target ≡ Some index → IsSome (slice_get app.releases index)) →
      option_map (net_of app key cohort) target ≡ Some net →
      IsSome (option_map (λ (release : Release). string_of app cohort key release rows) (option_and_then (λ index. slice_get app.releases index) target))
  by_target app cohort None net there found = cc
  by_target app cohort (Some index) net there found =
      kept_some (λ (release : Release). string_of app cohort key release rows) (slice_get app.releases index) (there index refl)

  by_cohort :
      (app : App) (cohort : Option Cohort) (net : Net) →
      option_and_then (λ (c : Cohort). option_map (net_of app key c) (cohort_target app c key)) cohort ≡ Some net →
      IsSome
      (option_and_then (λ (track : App × Cohort). option_map (λ (release : Release). string_of track.0 track.1 key release rows)
      (option_and_then (λ index. slice_get track.0.releases index) (cohort_target track.0 track.1 key)))
      (option_map (λ (c : Cohort). (app, c)) cohort))
  by_cohort app None net found = cc
  by_cohort app (Some cohort) net found =
      by_target app cohort (cohort_target app cohort key) net (release-there app.releases (track_target app.releases cohort key.lane key.pin)) found

  by_app :
      (found : Option App) (net : Net) →
      option_and_then (λ (app : App). net_in app key) found ≡ Some net →
      IsSome
      (option_and_then (λ (track : App × Cohort). option_map (λ (release : Release). string_of track.0 track.1 key release rows)
      (option_and_then (λ index. slice_get track.0.releases index) (cohort_target track.0 track.1 key)))
      (option_and_then (λ (app : App). option_map (λ (c : Cohort). (app, c)) (slice_get app.cohorts key.cohort)) found))
  by_app None net found = cc
  by_app (Some app) net found = by_cohort app (slice_get app.cohorts key.cohort) net found

  -- the graph of a key has that key
  key-target : (app : App) (cohort : Cohort) (target : Option ℕ) (net : Net) → option_map (net_of app key cohort) target ≡ Some net → net.key ≡ key
  key-target app cohort None net found = cc
  key-target app cohort (Some index) net found = search

  key-cohort :
      (app : App) (cohort : Option Cohort) (net : Net) →
      option_and_then (λ (c : Cohort). option_map (net_of app key c) (cohort_target app c key)) cohort ≡ Some net → net.key ≡ key
  key-cohort app None net found = cc
  key-cohort app (Some cohort) net found = key-target app cohort (cohort_target app cohort key) net found

  key-app : (there : Option App) (net : Net) → option_and_then (λ (app : App). net_in app key) there ≡ Some net → net.key ≡ key
  key-app None net found = cc
  key-app (Some app) net found = key-cohort app (slice_get app.cohorts key.cohort) net found

pub key-of_net : (apps : List App) (key : TrackKey) (net : Net) → net_among apps key ≡ Some net → net.key ≡ key
key-of_net apps key net found = key-app apps key [] (slice_get apps key.app) net found

pub text-there :
    (apps : List App) (key : TrackKey) (net : Net) (prices : Prices) →
    net_among apps key ≡ Some net → prices.key ≡ net.key → IsSome (string_among apps prices)
text-there apps key net prices found own =
    subst (λ (k : TrackKey). IsSome (string_among apps (record { key = k; rows = prices.rows })))
    (sym (own ∙ key-of_net apps key net found))
    (by_app apps key prices.rows (slice_get apps key.app) net found)
