-- The quotes from outside, of an app of a content.
use Rattle.std.proofs.Common.{◌≡◌, ℕ, ◌<◌, ◌&&◌, true, List, [], length, get_or, Option, None, Some, sym, ap, ◌∙◌, subst}
use Rattle.std.specs.List.{All, slice_get}
use Rattle.std.specs.Option.{option_and_then, option_map_or, IfSome}
use Rattle.std.proofs.lemmas.Bool.{and_parts}
use Rattle.std.proofs.lemmas.List.Sums.{AllPass-from_list_all}
use Rattle.catalogue.specs.VersionLaws.{BelowIsIrreflexive}
use Rattle.values.specs.Ordered.{ascend}
use Rattle.catalogue.specs.Forms.{is_hash, is_package_name, is_size}
use Rattle.catalogue.specs.Lookups.{cohorts_at, releases_at}
use Rattle.catalogue.specs.Validity.{IsValid, is_valid_audience, is_valid_release, is_release_below, spells}
use Rattle.catalogue.specs.declared.content.App.{App}
use Rattle.catalogue.specs.declared.content.Cohort.{Cohort}
use Rattle.catalogue.specs.declared.content.Release.{Release}
use Rattle.cohorts.specs.Offers.{track_target}
use Rattle.payload_graph.specs.declared.payload.TrackKey.{TrackKey}
use Rattle.payload_graph.specs.declared.place.Place.TheVariants.{Outside}
use Rattle.payload_graph.specs.Laws.{DiffersArePermitted, FullsArePermitted}
use Rattle.payload_graph.specs.Net.{Net, net_among}
use Rattle.price_cert.specs.Laws.{ArePrices}
use Rattle.price_cert.specs.declared.row.Row.{Row}
use Rattle.quotes.proofs.AmongLemmas.{HasApp, HasApp-net_among}
use Rattle.quotes.proofs.ChainLemmas.{prices_are_least_on_tracks}
use Rattle.quotes.proofs.QuoteTrackLemmas.{HasIsTrack-track, HasTrack-net_in}
use Rattle.quotes.proofs.VisitorLemmas.{quote-best}
use Rattle.quotes.specs.Outside.{IsBest, best_quote, sum_into}
use Rattle.quotes.specs.Quotes.{IsQuote, IsQuoteAmong}
use Rattle.quotes.specs.declared.outside.Best.{Best}

-- the sizes of valid releases are within bounds
sizes_valid :
    (cohorts : List Cohort) (releases : List Release) →
    ((k : ℕ) (d : Release) → k < length releases → is_valid_release cohorts (get_or releases k d) ≡ true) →
    All (λ (release : Release). is_size release.size ≡ true) releases
sizes_valid cohorts releases good k d within =
    let release = get_or releases k d in
    let spelled = spells release.spelled release.version in
    let named = is_package_name release.name in
    let sized = is_size release.size in
    let hashed = is_hash release.hash in
    let one = and_parts (spelled && named && sized && hashed) (is_valid_audience cohorts release.audience) (good k d within) in
    let two = and_parts (spelled && named && sized) hashed one.0 in
    (and_parts (spelled && named) sized two.0).1

module _ (irreflexive : BelowIsIrreflexive) (fulls : FullsArePermitted) (differs : DiffersArePermitted) (apps : List App) (key : TrackKey) (net : Net) (valid : IsValid apps) (made : net_among apps key ≡ Some net) where
  has : HasApp apps key net
  has = HasApp-net_among apps key net valid made

  releases_are : releases_at apps key.app ≡ has.app.releases
  releases_are = ap (λ (o : Option App). option_map_or (λ (app : App). app.releases) o []) has.there

  cohorts_are : cohorts_at apps key.app ≡ has.app.cohorts
  cohorts_are = ap (λ (o : Option App). option_map_or (λ (app : App). app.cohorts) o []) has.there

  pub releases_ascend_among : ascend is_release_below (releases_at apps key.app) ≡ true
  releases_ascend_among = subst (λ (releases : List Release). ascend is_release_below releases ≡ true) (sym releases_are) has.valid.releases_ascend

  pub sizes_among : All (λ (release : Release). is_size release.size ≡ true) (releases_at apps key.app)
  sizes_among =
      subst (λ (releases : List Release). All (λ (release : Release). is_size release.size ≡ true) releases) (sym releases_are)
      (sizes_valid has.app.cohorts has.app.releases (AllPass-from_list_all (is_valid_release has.app.cohorts) has.app.releases has.valid.releases_valid))

  -- the version that the clients of the key are meant to have in a cohort
  abbrev sought_in : Option Cohort → Option (List ℕ)
  sought_in cohort = option_and_then (λ (cohort : Cohort). track_target has.app.releases cohort key.lane key.pin) cohort

  sought_is :
      option_and_then (λ (cohort : Cohort). track_target (releases_at apps key.app) cohort key.lane key.pin) (slice_get (cohorts_at apps key.app) key.cohort)
      ≡ sought_in (slice_get (cohorts_at apps key.app) key.cohort)
  sought_is =
      ap (λ (releases : List Release). option_and_then (λ (cohort : Cohort). track_target releases cohort key.lane key.pin) (slice_get (cohorts_at apps key.app) key.cohort)) releases_are

  -- a track of a graph has a target
  pub some_target :
      None ≡ option_and_then (λ (cohort : Cohort). track_target (releases_at apps key.app) cohort key.lane key.pin) (slice_get (cohorts_at apps key.app) key.cohort) → ⊥
  some_target none =
      let at = HasTrack-net_in has.app key net has.made in
      let is = HasIsTrack-track has.app key net has.valid at in
      let found = ap (λ (cohorts : List Cohort). slice_get cohorts key.cohort) cohorts_are ∙ is.track.cohort_there in
      let target : None ≡ Some is.release.version =
      none ∙ sought_is ∙ ap sought_in found ∙ is.track.targeted in
      cc

  module _ (rows : List Row) (are : ArePrices net rows) (version : List ℕ) where
    pub quote-outside :
        (cohort : Cohort) (asked : TrackKey) (target : List ℕ) (best : Option Best) →
        slice_get (cohorts_at apps key.app) key.cohort ≡ Some cohort →
        asked ≡ key →
        Some target ≡ option_and_then (λ (cohort : Cohort). track_target (releases_at apps key.app) cohort key.lane key.pin) (slice_get (cohorts_at apps key.app) key.cohort) →
        IsBest (sum_into (releases_at apps key.app) cohort asked target version rows) (length (releases_at apps key.app)) best →
        IsQuoteAmong apps key (Outside version) (best_quote best)
    quote-outside cohort asked target best there same targeted is_best =
        let at = HasTrack-net_in has.app key net has.made in
        let is = HasIsTrack-track has.app key net has.valid at in
        let found = ap (λ (cohorts : List Cohort). slice_get cohorts key.cohort) cohorts_are ∙ is.track.cohort_there in
        let same_cohort : at.cohort ≡ cohort = (let both : Some at.cohort ≡ Some cohort = sym found ∙ there in cc) in
        let same_target : target ≡ is.release.version =
        (let both : Some target ≡ Some is.release.version =
        targeted ∙ sought_is ∙ ap sought_in found ∙ is.track.targeted in cc) in
        let one = subst (λ (releases : List Release). IsBest (sum_into releases cohort asked target version rows) (length releases) best) releases_are is_best in
        let two = subst (λ (c : Cohort). IsBest (sum_into has.app.releases c asked target version rows) (length has.app.releases) best) (sym same_cohort) one in
        let three = subst (λ (k : TrackKey). IsBest (sum_into has.app.releases at.cohort k target version rows) (length has.app.releases) best) same two in
        let four = subst (λ (v : List ℕ). IsBest (sum_into has.app.releases at.cohort key v version rows) (length has.app.releases) best) same_target three in
        let quote =
        quote-best has.app key at.cohort at.target is.release is.track rows
        (λ from within. prices_are_least_on_tracks irreflexive fulls differs has.app key net rows from has.valid has.made are within)
        version best four in
        subst (λ (o : Option App). IfSome o (λ app. IsQuote app key (Outside version) (best_quote best))) (sym has.there) quote
