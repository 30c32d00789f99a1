-- The chains of a track are those of its graph, with the same sums.
use Rattle.std.proofs.Common.{◌≡◌, ℕ, ◌<◌, List, [], ◌∷◌, length, Option, None, Some, refl, sym, ap, ◌∙◌, subst, arith}
use Rattle.std.specs.Option.{option_and_then, option_map}
use Rattle.std.proofs.lemmas.List.Sums.{sum_by-cons}
use Rattle.catalogue.specs.VersionLaws.{BelowIsIrreflexive}
use Rattle.catalogue.specs.Validity.{IsValidApp}
use Rattle.catalogue.specs.declared.content.App.{App}
use Rattle.catalogue.specs.declared.content.Cohort.{Cohort}
use Rattle.catalogue.specs.declared.content.Release.{Release}
use Rattle.payload_graph.specs.Chains.{bytes_of, destination_of, cohort_target, target_index}
use Rattle.payload_graph.specs.Chains as rules
use Rattle.payload_graph.specs.declared.payload.Payload.{Payload}
use Rattle.payload_graph.specs.declared.payload.TrackKey.{TrackKey}
use Rattle.payload_graph.specs.declared.place.Place.TheVariants.{At}
use Rattle.payload_graph.specs.Laws.{DiffersArePermitted, FullsArePermitted, IsTrack}
use Rattle.payload_graph.specs.Net.{Net, net_of}
use Rattle.payload_graph.specs.declared.edge.Edge.{Edge}
use Rattle.price_cert.specs.Chains as graph
use Rattle.price_cert.specs.Rows.{price_at}
use Rattle.quotes.proofs.PayloadLemmas.{destination-within, edge-permitted, payload-edge}
use Rattle.quotes.proofs.QuoteTrackLemmas.{HasIsTrack-track, HasTrack-net_in, length-doors}
use Rattle.quotes.specs.Sums.{IsPriceOf, PricesAreLeastOnTracks}

-- a chain of the track in the graph
record HasEdges (app : App) (net : Net) (from : ℕ) (payloads : List Payload) : Type 0 where
  edges : List Edge
  leads : graph.IsChain net from edges
  sum : graph.sum_of edges ≡ rules.sum_of app payloads

-- a chain of the graph on the track
record HasPayloads (app : App) (key : TrackKey) (from : ℕ) (edges : List Edge) : Type 0 where
  payloads : List Payload
  leads : rules.IsChain app key (At from) payloads
  sum : rules.sum_of app payloads ≡ graph.sum_of edges

module _ (irreflexive : BelowIsIrreflexive) (fulls : FullsArePermitted) (differs : DiffersArePermitted) (app : App) (key : TrackKey) (cohort : Cohort) (target : ℕ) (release : Release) (valid : IsValidApp app) (track : IsTrack app key cohort target release) (target_there : cohort_target app cohort key ≡ Some target) where
  abbrev net : Net
  net = net_of app key cohort target

  pub target-is : target_index app key ≡ Some target
  target-is =
      ap (λ (o : Option Cohort). option_and_then (λ (c : Cohort). cohort_target app c key) o) track.cohort_there ∙ target_there

  edges-chain :
      (payloads : List Payload) (from : ℕ) →
      from < length app.releases → rules.IsChain app key (At from) payloads →
      HasEdges app net from payloads
  edges-chain [] from within leads =
      let at : Some (At target) ≡ Some (At from) = sym (ap (λ (o : Option ℕ). option_map (λ n. At n) o) target-is) ∙ leads in
      let same : from ≡ target = cc in
      record { edges = []; leads = same; sum = refl }
  edges-chain (payload ∷ payloads) from within leads =
      let found = edge-permitted irreflexive fulls differs app key cohort target release valid track from within payload leads.0 in
      let edge = found.edge in
      let matches = found.matches in
      let there = destination-within app key cohort target release (At from) payload track leads.0 in
      let next : edge.to < length app.releases = subst (λ n. n < length app.releases) matches.to there in
      let after = subst (λ n. rules.IsChain app key (At n) payloads) matches.to leads.1 in
      let rest = edges-chain payloads edge.to next after in
      let one = sum_by-cons (λ (e : Edge). e.bytes) edge rest.edges in
      let two = sum_by-cons (bytes_of app) payload payloads in
      let bytes = matches.bytes in
      let sums = rest.sum in
      record { edges = edge ∷ rest.edges; leads = (found.inside, rest.leads); sum = omega arith }

  payloads-chain :
      (edges : List Edge) (from : ℕ) →
      from < length app.releases → graph.IsChain net from edges →
      HasPayloads app key from edges
  payloads-chain [] from within leads =
      record {
        payloads = [];
        leads = ap (λ (o : Option ℕ). option_map (λ n. At n) o) target-is ∙ ap (λ n. Some (At n)) (sym leads);
        sum = refl;
      }
  payloads-chain (edge ∷ edges) from within leads =
      let found = payload-edge irreflexive fulls differs app key cohort target release valid track from within edge leads.0 in
      let payload = found.payload in
      let matches = found.matches in
      let there = destination-within app key cohort target release (At from) payload track found.permitted in
      let next : edge.to < length app.releases = subst (λ n. n < length app.releases) matches.to there in
      let rest = payloads-chain edges edge.to next leads.1 in
      let one = sum_by-cons (λ (e : Edge). e.bytes) edge edges in
      let two = sum_by-cons (bytes_of app) payload rest.payloads in
      let bytes = matches.bytes in
      let sums = rest.sum in
      record {
        payloads = payload ∷ rest.payloads;
        leads = (found.permitted, subst (λ n. rules.IsChain app key (At n) rest.payloads) (sym matches.to) rest.leads);
        sum = omega arith;
      }

  pub price-track :
      (from : ℕ) → from < length app.releases →
      (price : Option ℕ) → graph.IsPriceOf net from price → IsPriceOf app key (At from) price
  price-track from within None none = λ payloads leads.
      let chain = edges-chain payloads from within leads in
      none chain.edges chain.leads
  price-track from within (Some price) least =
      let chain = payloads-chain least.chain from within least.leads in
      record {
        chain = chain.payloads;
        leads = chain.leads;
        costs = chain.sum ∙ least.costs;
        least = λ payloads leads.
            let other = edges-chain payloads from within leads in
            let low = least.least other.edges other.leads in
            let same = other.sum in
            omega arith;
      }

module _ (irreflexive : BelowIsIrreflexive) (fulls : FullsArePermitted) (differs : DiffersArePermitted) where
  pub prices_are_least_on_tracks : PricesAreLeastOnTracks
  prices_are_least_on_tracks app key net rows from valid there are within =
      let has = HasTrack-net_in app key net there in
      let is = HasIsTrack-track app key net valid has in
      let sized = length-doors app key net has in
      let price = are from (omega arith) in
      let own = subst (λ (n : Net). graph.IsPriceOf n from (price_at rows from)) has.is price in
      price-track irreflexive fulls differs app key has.cohort has.target is.release valid is.track has.target_there from within (price_at rows from) own
