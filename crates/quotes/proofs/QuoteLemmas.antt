-- What a certified table's row says of its release is the first payload of a chain of the least sum.
use Rattle.std.proofs.Common.{◌≡◌, ℕ, ◌+◌, ◌<◌, ◌&&◌, ◌||◌, inl, inr, not, Bool, true, false, List, length, eqb, ltb, Option, None, Some, refl, sym, ap, ◌∙◌, subst, arith}
use Rattle.std.specs.List.{Contains}
use Rattle.std.specs.Option.{option_map, option_map_or}
use Rattle.std.proofs.lemmas.Bool.{and_parts, eq-eqb, eqb-true, false≢true, or_cases}
use Rattle.std.proofs.lemmas.List.Elements.{All-contains}
use Rattle.std.proofs.lemmas.List.Folds.{Any-from_list_any}
use Rattle.std.proofs.lemmas.List.Sums.{AllPass-from_list_all}
use Rattle.catalogue.specs.VersionLaws.{BelowIsIrreflexive}
use Rattle.catalogue.specs.Validity.{IsValidApp}
use Rattle.catalogue.specs.declared.content.App.{App}
use Rattle.catalogue.specs.declared.content.Cohort.{Cohort}
use Rattle.catalogue.specs.declared.content.Release.{Release}
use Rattle.payload_graph.specs.Chains.{IsAtTarget, destination_of, cohort_target}
use Rattle.payload_graph.specs.declared.payload.Payload.{Payload}
use Rattle.payload_graph.specs.declared.payload.TrackKey.{TrackKey}
use Rattle.payload_graph.specs.declared.place.Place.TheVariants.{At}
use Rattle.payload_graph.specs.Laws.{DiffersArePermitted, FullsArePermitted, IsTrack}
use Rattle.payload_graph.specs.Net.{Net, edges_from, net_in, net_of}
use Rattle.payload_graph.specs.declared.edge.Edge.{Edge}
use Rattle.payload_graph.specs.declared.edge.Kind.{Kind}
use Rattle.payload_graph.specs.declared.edge.Kind.TheVariants as kinds
use Rattle.price_cert.specs.Laws.{ArePrices}
use Rattle.price_cert.specs.Rows.{price_at, price_of, row_at}
use Rattle.price_cert.specs.Rules.{AreCertified, adds_up, broken_rule, comes_first, costs, ends_at_target, first_failed, is_attained, is_first_or_larger, is_named, is_next, is_same_kind, meets_bounds}
use Rattle.price_cert.specs.Rules as rules
use Rattle.price_cert.specs.declared.row.Row.{Row}
use Rattle.price_cert.specs.declared.row.Row.TheVariants.{Nothing, End, Price}
use Rattle.quotes.proofs.ChainLemmas.{price-track, target-is}
use Rattle.quotes.proofs.PayloadLemmas.{Matches, destination-within, edge-permitted, payload-edge}
use Rattle.quotes.proofs.QuoteTrackLemmas.{HasIsTrack-track, HasTrack-net_in, length-doors}
use Rattle.quotes.specs.Quotes.{Begins, IsFirst, IsQuote, kind_of, payload_named, row_quote, yields}
use Rattle.quotes.specs.Sums.{IsLeast, IsPriceOf}
use Rattle.quotes.specs.declared.quote.Quote.TheVariants.{Next, NoChain}

-- what the rules say of a row
record Keeps (net : Net) (rows : List Row) (from : ℕ) (row : Row) : Type 0 where
  ends : ends_at_target net.target from row ≡ true
  attained : is_attained net rows from row ≡ true
  first : comes_first net rows from row ≡ true

record AreAll (c1 c3 c4 : Bool) : Type 0 where
  one : c1 ≡ true
  three : c3 ≡ true
  four : c4 ≡ true

none_failed : (c1 c2 c3 c4 : Bool) → first_failed c1 c2 c3 c4 ≡ None → AreAll c1 c3 c4
none_failed false c2 c3 c4 none = cc
none_failed true false c3 c4 none = cc
none_failed true true false c4 none = cc
none_failed true true true false none = cc
none_failed true true true true none = record { one = refl; three = refl; four = refl }

Keeps-unbroken :
    (net : Net) (rows : List Row) (from : ℕ) (row : Row) →
    broken_rule net rows from row ≡ None → Keeps net rows from row
Keeps-unbroken net rows from row none =
    let all =
    none_failed (ends_at_target net.target from row) (meets_bounds net rows from row)
    (is_attained net rows from row) (comes_first net rows from row) none in
    record { ends = all.one; attained = all.three; first = all.four }

-- the payload that a row names, in the graph
record HasNext (net : Net) (rows : List Row) (from price : ℕ) (kind : Kind) (to : ℕ) : Type 0 where
  edge : Edge
  inside : Contains (edges_from net from) edge
  kind_is : kind ≡ edge.kind
  to_is : edge.to ≡ to
  costing : costs rows price edge ≡ true

same_kind : (kind other : Kind) → is_same_kind kind other ≡ true → kind ≡ other
same_kind kinds.Full kinds.Full same = refl
same_kind kinds.Full kinds.Differ same = absurd (false≢true same)
same_kind kinds.Differ kinds.Full same = absurd (false≢true same)
same_kind kinds.Differ kinds.Differ same = refl

HasNext-attained :
    (net : Net) (rows : List Row) (from price : ℕ) (kind : Kind) (to : ℕ) →
    is_attained net rows from (Price price kind to) ≡ true → HasNext net rows from price kind to
HasNext-attained net rows from price kind to attained =
    let found = Any-from_list_any (is_next rows price kind to) (edges_from net from) attained in
    let edge = found.1 in
    let parts = and_parts (is_named kind to edge) (costs rows price edge) found.4 in
    let named = and_parts (eqb edge.to to) (is_same_kind kind edge.kind) parts.0 in
    record {
      edge = edge;
      inside = (found.0, found.2, found.3);
      kind_is = same_kind kind edge.kind named.1;
      to_is = eqb-true edge.to to named.0;
      costing = parts.1;
    }

-- what is left of a price after a payload's bytes
record HasRest (rest : Option ℕ) (price bytes : ℕ) : Type 0 where
  left : ℕ
  is : rest ≡ Some left
  sum : price ≡ bytes + left

HasRest-adds_up :
    (rest : Option ℕ) (price bytes : ℕ) → adds_up rest price bytes ≡ true → HasRest rest price bytes
HasRest-adds_up None price bytes adds = absurd (false≢true adds)
HasRest-adds_up (Some left) price bytes adds =
    record { left = left; is = refl; sum = eqb-true price (bytes + left) adds }

abbrev yields_to : Kind → ℕ → Kind → ℕ → Bool
yields_to kind to other_kind other =
    ltb to other || (eqb to other && (is_same_kind other_kind kinds.Differ || is_same_kind kind kinds.Full))

-- the same ties in the graph and on the track
yields-payload :
    (app : App) (other payload : Payload) (other_edge : Edge) (kind : Kind) (to : ℕ) →
    Matches app other other_edge → destination_of app payload ≡ to → kind_of payload ≡ kind →
    rules.yields other_edge kind to ≡ true → yields app other payload ≡ true
yields-payload app other payload other_edge kind to matches to_is kind_is yielding =
    ap (λ n. yields_to (kind_of other) n (kind_of payload) (destination_of app payload)) matches.to
    ∙ ap (λ k. yields_to k other_edge.to (kind_of payload) (destination_of app payload)) matches.kind
    ∙ ap (λ k. yields_to other_edge.kind other_edge.to k (destination_of app payload)) kind_is
    ∙ ap (λ n. yields_to other_edge.kind other_edge.to kind n) to_is
    ∙ yielding

module _ (irreflexive : BelowIsIrreflexive) (fulls : FullsArePermitted) (differs : DiffersArePermitted) (app : App) (key : TrackKey) (cohort : Cohort) (target : ℕ) (release : Release) (valid : IsValidApp app) (track : IsTrack app key cohort target release) (target_there : cohort_target app cohort key ≡ Some target) (rows : List Row) (certified : AreCertified (net_of app key cohort target) rows) (are : ArePrices (net_of app key cohort target) rows) (sized : length (net_of app key cohort target).doors ≡ length app.releases) where
  abbrev net : Net
  net = net_of app key cohort target

  on_track : (from : ℕ) → from < length app.releases → IsPriceOf app key (At from) (price_at rows from)
  on_track from within =
      price-track irreflexive fulls differs app key cohort target release valid track target_there from within (price_at rows from) (are from (omega arith))

  -- a least sum is the row's price
  price_at-least :
      (from : ℕ) (sum : ℕ) → from < length app.releases → IsLeast app key (At from) sum → price_at rows from ≡ Some sum
  price_at-least from sum within least = cases (price_at rows from) (on_track from within)
    where
      cases : (price : Option ℕ) → IsPriceOf app key (At from) price → price ≡ Some sum
      cases None none = absurd (none least.chain least.leads)
      cases (Some price) own =
          let low = own.least least.chain least.leads in
          let high = least.least own.chain own.leads in
          let one = least.costs in
          let two = own.costs in
          let same : price ≡ sum = omega arith in
          ap (λ n. Some n) same

  -- the least sum of a priced release
  least-price :
      (from : ℕ) (price : ℕ) → from < length app.releases → price_at rows from ≡ Some price → IsLeast app key (At from) price
  least-price from price within is = subst (λ (p : Option ℕ). IsPriceOf app key (At from) p) is (on_track from within)

  keeps : (from : ℕ) (row : Row) → from < length app.releases → row_at rows from ≡ row → Keeps net rows from row
  keeps from row within is =
      subst (Keeps net rows from) is (Keeps-unbroken net rows from (row_at rows from) (certified.right from (omega arith)))

  -- any payload that begins a chain of the row's price yields to the one that the row names
  all-yield :
      (from price : ℕ) (kind : Kind) (to : ℕ) (payload other : Payload) →
      from < length app.releases → Keeps net rows from (Price price kind to) →
      destination_of app payload ≡ to → kind_of payload ≡ kind →
      Begins app key (At from) other price → yields app other payload ≡ true
  all-yield from price kind to payload other within kept to_is kind_is begins =
      let found = edge-permitted irreflexive fulls differs app key cohort target release valid track from within other begins.permitted in
      let edge = found.edge in
      let matches = found.matches in
      let there = destination-within app key cohort target release (At from) other track begins.permitted in
      let next : edge.to < length app.releases = subst (λ n. n < length app.releases) matches.to there in
      let least = subst (λ n. IsLeast app key (At n) begins.rest) matches.to begins.rest_least in
      let rest = price_at-least edge.to begins.rest next least in
      let sum = begins.adds_up in
      let bytes = matches.bytes in
      let equal : price ≡ edge.bytes + begins.rest = omega arith in
      let costing : costs rows price edge ≡ true =
      ap (λ (r : Option ℕ). adds_up r price edge.bytes) rest ∙ eq-eqb price (edge.bytes + begins.rest) equal in
      let passed = All-contains (λ (e : Edge). is_first_or_larger rows price kind to e ≡ true) (edges_from net from) edge (AllPass-from_list_all (is_first_or_larger rows price kind to) (edges_from net from) kept.first) found.inside in
      elim (or_cases (not (costs rows price edge)) (rules.yields edge kind to) passed) [
        | inl dearer ↦ absurd (false≢true (sym (ap not costing) ∙ dearer))
        | inr yielding ↦ yields-payload app other payload edge kind to matches to_is kind_is yielding
      ]

  -- a release that isn't the target
  away : (from : ℕ) → ends_at_target target from (Price 0 kinds.Full 0) ≡ true → ¬ (IsAtTarget app key (At from))
  away from ends = λ at_target.
      let at : Some (At target) ≡ Some (At from) =
      sym (ap (λ (o : Option ℕ). option_map (λ n. At n) o) (target-is irreflexive fulls differs app key cohort target release valid track target_there)) ∙ at_target in
      let same : from ≡ target = cc in
      false≢true (sym (ap not (eq-eqb from target same)) ∙ ends)

  quote-row :
      (from : ℕ) (row : Row) → from < length app.releases → row_at rows from ≡ row →
      IsQuote app key (At from) (row_quote app.releases app.diffs from row)
  quote-row from Nothing within is =
      subst (λ (p : Option ℕ). IsPriceOf app key (At from) p) (ap price_of is) (on_track from within)
  quote-row from End within is =
      let same = eqb-true from target (keeps from End within is).ends in
      ap (λ (o : Option ℕ). option_map (λ n. At n) o) (target-is irreflexive fulls differs app key cohort target release valid track target_there)
      ∙ ap (λ n. Some (At n)) (sym same)
  quote-row from (Price price kind to) within is =
      let kept = keeps from (Price price kind to) within is in
      let next = HasNext-attained net rows from price kind to kept.attained in
      let edge = next.edge in
      let found = payload-edge irreflexive fulls differs app key cohort target release valid track from within edge next.inside in
      let payload = found.payload in
      let matches = found.matches in
      let there = destination-within app key cohort target release (At from) payload track found.permitted in
      let inside : edge.to < length app.releases = subst (λ n. n < length app.releases) matches.to there in
      let adds = HasRest-adds_up (price_at rows edge.to) price edge.bytes next.costing in
      let rest = least-price edge.to adds.left inside adds.is in
      let bytes = matches.bytes in
      let sum = adds.sum in
      let to_is : destination_of app payload ≡ to = matches.to ∙ next.to_is in
      let kind_is : kind_of payload ≡ kind = matches.kind ∙ sym next.kind_is in
      let named : payload_named app.releases app.diffs from kind to ≡ Some payload =
      ap (λ k. payload_named app.releases app.diffs from k to) next.kind_is
      ∙ ap (λ n. payload_named app.releases app.diffs from edge.kind n) (sym next.to_is)
      ∙ found.named in
      let first : IsFirst app key (At from) payload price =
      record {
        least = least-price from price within (ap price_of is);
        begins = record {
          permitted = found.permitted;
          rest = adds.left;
          rest_least = subst (λ n. IsLeast app key (At n) adds.left) (sym matches.to) rest;
          adds_up = omega arith;
        };
        first = λ other begins. all-yield from price kind to payload other within kept to_is kind_is begins;
      } in
      subst (λ (o : Option Payload). IsQuote app key (At from) (option_map_or (λ (p : Payload). Next p price) o NoChain)) (sym named)
      (away from kept.ends, first)

module _ (irreflexive : BelowIsIrreflexive) (fulls : FullsArePermitted) (differs : DiffersArePermitted) (app : App) (key : TrackKey) (net : Net) (rows : List Row) (valid : IsValidApp app) (there : net_in app key ≡ Some net) (certified : AreCertified net rows) (are : ArePrices net rows) where
  -- a row for each release
  pub length-rows : length rows ≡ length app.releases
  length-rows = certified.sized ∙ length-doors app key net (HasTrack-net_in app key net there)

  pub quote-served :
      (from : ℕ) → from < length app.releases →
      IsQuote app key (At from) (row_quote app.releases app.diffs from (row_at rows from))
  quote-served from within =
      let has = HasTrack-net_in app key net there in
      let is = HasIsTrack-track app key net valid has in
      quote-row irreflexive fulls differs app key has.cohort has.target is.release valid is.track has.target_there rows
      (subst (λ (n : Net). AreCertified n rows) has.is certified)
      (subst (λ (n : Net). ArePrices n rows) has.is are)
      (sym (ap (λ (n : Net). length n.doors) has.is) ∙ length-doors app key net has)
      from (row_at rows from) within refl
