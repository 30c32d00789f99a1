-- What is offered at a release and from outside at its version: the same full packages.
use Rattle.std.proofs.Common.{◌≡◌, ℕ, ◌+◌, ◌<◌, ◌&&◌, ◌||◌, not, Bool, true, false, List, [], ◌∷◌, length, get_or, Option, None, Some, refl, sym, ap, ◌∙◌, subst}
use Rattle.std.specs.List.{position, slice_get}
use Rattle.std.specs.Option.{option_and_then, option_map, option_map_or, IfSome}
use Rattle.std.proofs.lemmas.Bool.{false≢true}
use Rattle.std.proofs.lemmas.List.Quantifiers.{position-Some}
use Rattle.std.proofs.lemmas.List.Sums.{sum_by-cons}
use Rattle.std.proofs.lemmas.Option.{slice_get-get_or}
use Rattle.std.proofs.lemmas.Slice.Eq.{bytes_eq-Decides}
use Rattle.catalogue.specs.VersionLaws.{BelowIsIrreflexive}
use Rattle.catalogue.specs.Versions.{is_below}
use Rattle.catalogue.specs.Lookups.{is_release, releases_at}
use Rattle.catalogue.specs.Validity.{IsValid}
use Rattle.catalogue.specs.declared.content.App.{App}
use Rattle.catalogue.specs.declared.content.Cohort.{Cohort}
use Rattle.catalogue.specs.declared.content.Release.{Release}
use Rattle.payload_graph.specs.Chains.{IsAtTarget, IsChain, bytes_of, cohort_target, target_index}
use Rattle.payload_graph.specs.Laws.{IsTrack}
use Rattle.payload_graph.specs.Net.{Net, net_among}
use Rattle.payload_graph.specs.Permitted.{is_offered_at, jumps_stone, permits, permits_full, rolls_back}
use Rattle.payload_graph.specs.Places.{version_at}
use Rattle.payload_graph.specs.declared.payload.Payload.{Payload}
use Rattle.payload_graph.specs.declared.payload.Payload.TheVariants.{Full, Differ}
use Rattle.payload_graph.specs.declared.payload.TrackKey.{TrackKey}
use Rattle.payload_graph.specs.declared.place.Place.{Place}
use Rattle.payload_graph.specs.declared.place.Place.TheVariants.{At, Outside}
use Rattle.quotes.proofs.AmongLemmas.{HasApp-net_among}
use Rattle.quotes.proofs.PayloadLemmas.{permits-track}
use Rattle.quotes.proofs.QuoteTrackLemmas.{HasIsTrack-track, HasTrack-net_in}
use Rattle.quotes.proofs.VisitorLemmas.{never, not_at_target}
use Rattle.quotes.specs.Outside.{without_differentials}
use Rattle.quotes.specs.Quotes.{Begins, IsFirst, IsQuote, IsQuoteAmong}
use Rattle.quotes.specs.Sums.{HasNoChain}
use Rattle.quotes.specs.declared.quote.Quote.{Quote}
use Rattle.quotes.specs.declared.quote.Quote.TheVariants.{Here, Next, NoChain}

-- nothing leads from the target's version: neither up nor down
leads_nowhere : (offered up jumps back down : Bool) → (offered && ((up && (not up && not jumps)) || (back && (false && down)))) ≡ false
leads_nowhere false up jumps back down = refl
leads_nowhere true true jumps true down = refl
leads_nowhere true true jumps false down = refl
leads_nowhere true false jumps true down = refl
leads_nowhere true false jumps false down = refl

none_passes : {A : Type 0} (test : A → Bool) (o : Option A) → ((a : A) → test a ≡ false) → option_map_or test o false ≡ true → ⊥
none_passes test None fails is = false≢true is
none_passes test (Some a) fails is = false≢true (sym (fails a) ∙ is)

-- the release at the place of a version
pub record HasVersion (releases : List Release) (from : ℕ) (version : List ℕ) : Type 0 where
  pub within : from < length releases
  pub is : version_at releases (At from) ≡ Some version

pub HasVersion-position :
    (releases : List Release) (from : ℕ) (version : List ℕ) →
    position (is_release version) releases ≡ Some from → HasVersion releases from version
HasVersion-position [] from version found = absurd (let parts = position-Some (is_release version) [] from in cc)
HasVersion-position (first ∷ rest) from version found =
    let releases = first ∷ rest in
    let parts = position-Some (is_release version) releases from first found in
    let there = get_or releases from first in
    let equal : version ≡ there.version = (bytes_eq-Decides version there.version).0 parts.1 in
    record {
      within = parts.0;
      is =
          ap (λ (o : Option Release). option_map (λ (r : Release). r.version) o) (slice_get-get_or releases from first parts.0)
          ∙ ap (λ (v : List ℕ). Some v) (sym equal);
    }

module _ (irreflexive : BelowIsIrreflexive) (app : App) (key : TrackKey) (cohort : Cohort) (target : ℕ) (release : Release) (track : IsTrack app key cohort target release) (from : ℕ) (version : List ℕ) (has : HasVersion app.releases from version) where
  abbrev at : Place
  at = At from

  abbrev outside : Place
  outside = Outside version

  permits-same : (to : ℕ) → permits app key outside (Full to) ≡ permits app key at (Full to)
  permits-same to =
      permits-track app key cohort target release outside (Full to) track
      ∙ ap
      (λ (o : Option (List ℕ)). option_map_or (λ (to : Release). option_map_or (λ (v : List ℕ). permits_full app.releases cohort key release.version v to) o false) (slice_get app.releases to) false)
      (sym has.is)
      ∙ sym (permits-track app key cohort target release at (Full to) track)

  no_differ : (index : ℕ) → permits app key outside (Differ index) ≡ true → ⊥
  no_differ index permitted =
      never (slice_get app.diffs index) (sym (permits-track app key cohort target release outside (Differ index) track) ∙ permitted)

  -- a chain from outside is one from the release
  chain-at : (payloads : List Payload) → IsChain app key outside payloads → IsChain app key at payloads
  chain-at [] leads = absurd (not_at_target app key version leads)
  chain-at (Differ index ∷ payloads) leads = absurd (no_differ index leads.0)
  chain-at (Full to ∷ payloads) leads = (sym (permits-same to) ∙ leads.0, leads.1)

  begins-at : (payload : Payload) (sum : ℕ) → Begins app key outside payload sum → Begins app key at payload sum
  begins-at (Differ index) sum begins = absurd (no_differ index begins.permitted)
  begins-at (Full to) sum begins =
      record {
        permitted = sym (permits-same to) ∙ begins.permitted;
        rest = begins.rest;
        rest_least = begins.rest_least;
        adds_up = begins.adds_up;
      }

  begins-outside : (to sum : ℕ) → Begins app key at (Full to) sum → Begins app key outside (Full to) sum
  begins-outside to sum begins =
      record {
        permitted = permits-same to ∙ begins.permitted;
        rest = begins.rest;
        rest_least = begins.rest_least;
        adds_up = begins.adds_up;
      }

  first-outside : (to sum : ℕ) → IsFirst app key at (Full to) sum → IsFirst app key outside (Full to) sum
  first-outside to sum is =
      let begins = begins-outside to sum is.begins in
      record {
        least = record {
          chain = Full to ∷ begins.rest_least.chain;
          leads = (begins.permitted, begins.rest_least.leads);
          costs = sum_by-cons (bytes_of app) (Full to) begins.rest_least.chain ∙ ap (λ n. bytes_of app (Full to) + n) begins.rest_least.costs ∙ begins.adds_up;
          least = λ payloads leads. is.least.least payloads (chain-at payloads leads);
        };
        begins = begins;
        first = λ other others. is.first other (begins-at other sum others);
      }

  -- the version of the target
  target-version : IsAtTarget app key at → release.version ≡ version
  target-version is = cases (position (is_release release.version) app.releases) refl (sym (ap (λ (o : Option ℕ). option_map (λ n. At n) o) sought) ∙ is)
    where
      sought : target_index app key ≡ position (is_release release.version) app.releases
      sought =
          ap (λ (o : Option Cohort). option_and_then (λ (c : Cohort). cohort_target app c key) o) track.cohort_there
          ∙ ap (λ (o : Option (List ℕ)). option_and_then (λ (v : List ℕ). position (is_release v) app.releases) o) track.targeted

      cases :
          (o : Option ℕ) → position (is_release release.version) app.releases ≡ o →
          option_map (λ n. At n) o ≡ Some at → release.version ≡ version
      cases None found is = cc
      cases (Some n) found is =
          let same : n ≡ from = cc in
          let own = HasVersion-position app.releases n release.version found in
          let both : Some release.version ≡ Some version =
          sym own.is ∙ ap (λ k. version_at app.releases (At k)) same ∙ has.is in
          cc

  -- no full package leads away from the target's version
  no_full : release.version ≡ version → (to : ℕ) → permits app key outside (Full to) ≡ true → ⊥
  no_full same to permitted =
      none_passes (permits_full app.releases cohort key release.version version) (slice_get app.releases to) nowhere
      (sym (permits-track app key cohort target release outside (Full to) track) ∙ permitted)
    where
      nowhere : (there : Release) → permits_full app.releases cohort key release.version version there ≡ false
      nowhere there =
          let offered = is_offered_at cohort key.pin version there in
          let up = is_below version there.version in
          let jumps = jumps_stone app.releases version there.version in
          let back = rolls_back cohort key in
          let down = is_below there.version version in
          ap (λ (v : List ℕ). offered && ((up && (not (is_below v there.version) && not jumps)) || (back && (is_below v version && down)))) same
          ∙ ap (λ b. offered && ((up && (not up && not jumps)) || (back && (b && down)))) (irreflexive version)
          ∙ leads_nowhere offered up jumps back down

  none-at_target : IsAtTarget app key at → HasNoChain app key outside
  none-at_target is [] leads = not_at_target app key version leads
  none-at_target is (Differ index ∷ payloads) leads = no_differ index leads.0
  none-at_target is (Full to ∷ payloads) leads = no_full (target-version is) to leads.0

  quote-outside : (quote : Quote) → IsQuote app key at quote → IfSome (without_differentials quote) (IsQuote app key outside)
  quote-outside Here is = none-at_target is
  quote-outside NoChain none = λ payloads leads. none payloads (chain-at payloads leads)
  quote-outside (Next (Full to) sum) is = (not_at_target app key version, first-outside to sum is.1)
  quote-outside (Next (Differ index) sum) is = tt

module _ (irreflexive : BelowIsIrreflexive) (apps : List App) (key : TrackKey) (net : Net) (valid : IsValid apps) (made : net_among apps key ≡ Some net) (from : ℕ) (version : List ℕ) (has : HasVersion (releases_at apps key.app) from version) where
  pub quote-outside_among :
      (quote : Quote) → IsQuoteAmong apps key (At from) quote →
      IfSome (without_differentials quote) (IsQuoteAmong apps key (Outside version))
  quote-outside_among quote is =
      let own = HasApp-net_among apps key net valid made in
      let releases_are = ap (λ (o : Option App). option_map_or (λ (app : App). app.releases) o []) own.there in
      let there = subst (λ (releases : List Release). HasVersion releases from version) releases_are has in
      let at = HasTrack-net_in own.app key net own.made in
      let track = HasIsTrack-track own.app key net own.valid at in
      let quoted = subst (λ (o : Option App). IfSome o (λ app. IsQuote app key (At from) quote)) own.there is in
      let answered = quote-outside irreflexive own.app key at.cohort at.target track.release track.track from version there quote quoted in
      subst (λ (o : Option App). IfSome (without_differentials quote) (λ answer. IfSome o (λ app. IsQuote app key (Outside version) answer))) (sym own.there) answered
