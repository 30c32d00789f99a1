-- The best full package from outside is the first payload of a chain of the least sum.
use Rattle.std.proofs.Common.{◌≡◌, ℕ, ◌+◌, ◌<◌, ◌≤◌, inl, inr, ◌&&◌, ◌||◌, Bool, true, false, cond, eqb, ltb, List, [], ◌∷◌, length, Option, None, Some, refl, sym, ap, ◌∙◌, subst, arith}
use Rattle.std.specs.List.{slice_get}
use Rattle.std.specs.Option.{option_and_then, option_map, option_map_or}
use Rattle.std.proofs.lemmas.Bool.{cases_lt, eq-eqb, false≢true, lt-ltb}
use Rattle.std.proofs.lemmas.List.Sums.{sum_by-cons}
use Rattle.std.proofs.lemmas.Option.{slice_get_within}
use Rattle.catalogue.specs.declared.content.App.{App}
use Rattle.catalogue.specs.declared.content.Cohort.{Cohort}
use Rattle.catalogue.specs.declared.content.Release.{Release}
use Rattle.payload_graph.specs.Chains.{IsAtTarget, IsChain, bytes_of, sum_of, target_index}
use Rattle.payload_graph.specs.Permitted.{permits, permits_full}
use Rattle.payload_graph.specs.declared.payload.Payload.{Payload}
use Rattle.payload_graph.specs.declared.payload.Payload.TheVariants.{Full, Differ}
use Rattle.payload_graph.specs.declared.payload.TrackKey.{TrackKey}
use Rattle.payload_graph.specs.declared.place.Place.{Place}
use Rattle.payload_graph.specs.declared.place.Place.TheVariants.{At, Outside}
use Rattle.payload_graph.specs.Laws.{IsTrack}
use Rattle.price_cert.specs.Rows.{price_at}
use Rattle.price_cert.specs.declared.row.Row.{Row}
use Rattle.quotes.proofs.PayloadLemmas.{full_there, permits-track}
use Rattle.quotes.specs.Outside.{IsBest, best_quote, sum_if, sum_into, sum_through}
use Rattle.quotes.specs.Quotes.{Begins, IsFirst, IsQuote, yields}
use Rattle.quotes.specs.Sums.{HasNoChain, IsLeast, IsPriceOf}
use Rattle.quotes.specs.declared.outside.Best.{Best}

-- a place outside is no target
pub not_at_target : (app : App) (key : TrackKey) (version : List ℕ) → ¬ (IsAtTarget app key (Outside version))
not_at_target app key version at = cases (target_index app key) at
  where
    cases : (target : Option ℕ) → option_map (λ release. At release) target ≡ Some (Outside version) → ⊥
    cases None at = cc
    cases (Some target) at = cc

or-true : (b : Bool) → (b || true) ≡ true
or-true true = refl
or-true false = refl

pub never : {A : Type 0} (o : Option A) → option_map_or (λ (_ : A). false) o false ≡ true → ⊥
never None is = false≢true is
never (Some a) is = false≢true is

-- the sum by a release's full package, and what it is made of
record HasSum (rows : List Row) (releases : List Release) (permitted : Release → Bool) (to sum : ℕ) : Type 0 where
  there : Release
  is : slice_get releases to ≡ Some there
  passed : permitted there ≡ true
  rest : ℕ
  priced : price_at rows to ≡ Some rest
  adds_up : there.size + rest ≡ sum

HasSum-sum_into :
    (rows : List Row) (releases : List Release) (permitted : Release → Bool) (to sum : ℕ) →
    option_and_then (λ (release : Release). sum_if (permitted release) rows to release) (slice_get releases to) ≡ Some sum →
    HasSum rows releases permitted to sum
HasSum-sum_into rows releases permitted to sum is = at (slice_get releases to) refl is
  where
    priced :
        (there : Release) → slice_get releases to ≡ Some there → permitted there ≡ true →
        (price : Option ℕ) → price_at rows to ≡ price →
        option_map (λ rest. there.size + rest) price ≡ Some sum → HasSum rows releases permitted to sum
    priced there found passed None price_is is = cc
    priced there found passed (Some rest) price_is is =
        let adds : there.size + rest ≡ sum = cc in
        record { there = there; is = found; passed = passed; rest = rest; priced = price_is; adds_up = adds }

    if_permitted :
        (there : Release) → slice_get releases to ≡ Some there →
        (b : Bool) → permitted there ≡ b →
        cond b (sum_through rows to there) None ≡ Some sum → HasSum rows releases permitted to sum
    if_permitted there found false passed is = cc
    if_permitted there found true passed is = priced there found passed (price_at rows to) refl is

    at :
        (there : Option Release) → slice_get releases to ≡ there →
        option_and_then (λ (release : Release). sum_if (permitted release) rows to release) there ≡ Some sum →
        HasSum rows releases permitted to sum
    at None found is = cc
    at (Some there) found is = if_permitted there found (permitted there) refl is

module _ (app : App) (key : TrackKey) (cohort : Cohort) (target : ℕ) (release : Release) (track : IsTrack app key cohort target release) (rows : List Row) (on_track : (from : ℕ) → from < length app.releases → IsPriceOf app key (At from) (price_at rows from)) (version : List ℕ) where
  abbrev place : Place
  place = Outside version

  abbrev passes : Release → Bool
  passes there = permits_full app.releases cohort key release.version version there

  abbrev sums : ℕ → Option ℕ
  sums to = sum_into app.releases cohort key release.version version rows to

  permits-full :
      (to : ℕ) (there : Release) → slice_get app.releases to ≡ Some there →
      permits app key place (Full to) ≡ passes there
  permits-full to there found =
      permits-track app key cohort target release place (Full to) track
      ∙ ap (λ (o : Option Release). option_map_or passes o false) found

  -- no differential starts outside
  no_differ : (index : ℕ) → permits app key place (Differ index) ≡ true → ⊥
  no_differ index permitted =
      never (slice_get app.diffs index) (sym (permits-track app key cohort target release place (Differ index) track) ∙ permitted)

  -- a least sum is the row's price
  price-least :
      (from sum : ℕ) → from < length app.releases → IsLeast app key (At from) sum → price_at rows from ≡ Some sum
  price-least from sum within least = cases (price_at rows from) (on_track from within)
    where
      cases : (price : Option ℕ) → IsPriceOf app key (At from) price → price ≡ Some sum
      cases None none = absurd (none least.chain least.leads)
      cases (Some price) own =
          let low = own.least least.chain least.leads in
          let high = least.least own.chain own.leads in
          let one = least.costs in
          let two = own.costs in
          let same : price ≡ sum = omega arith in
          ap (λ n. Some n) same

  -- the sum that a permitted full package begins
  sum-permitted :
      (to rest sum : ℕ) → permits app key place (Full to) ≡ true → price_at rows to ≡ Some rest →
      bytes_of app (Full to) + rest ≡ sum → sums to ≡ Some sum
  sum-permitted to rest sum permitted priced adds =
      let found = full_there app key cohort target release place to track permitted in
      let there = found.item in
      let passed = sym (permits-full to there found.is) ∙ permitted in
      let bytes = ap (λ (o : Option Release). option_map_or (λ (r : Release). r.size) o 0) found.is in
      let total : there.size + rest ≡ sum = omega arith in
      ap (λ (o : Option Release). option_and_then (λ (r : Release). sum_if (passes r) rows to r) o) found.is
      ∙ ap (λ b. cond b (sum_through rows to there) None) passed
      ∙ ap (λ (o : Option ℕ). option_map (λ n. there.size + n) o) priced
      ∙ ap (λ n. Some n) total

  -- what begins a chain is a full package that has a sum
  record HasFull (payload : Payload) (sum : ℕ) : Type 0 where
    to : ℕ
    full : payload ≡ Full to
    within : to < length app.releases
    is : sums to ≡ Some sum

  HasFull-begins : (payload : Payload) (sum : ℕ) → Begins app key place payload sum → HasFull payload sum
  HasFull-begins (Differ index) sum begins = absurd (no_differ index begins.permitted)
  HasFull-begins (Full to) sum begins =
      let found = full_there app key cohort target release place to track begins.permitted in
      let within = slice_get_within app.releases to found.item found.is in
      let priced = price-least to begins.rest within begins.rest_least in
      record { to = to; full = refl; within = within; is = sum-permitted to begins.rest sum begins.permitted priced begins.adds_up }

  begins-sum : (to sum : ℕ) → sums to ≡ Some sum → Begins app key place (Full to) sum
  begins-sum to sum is =
      let has = HasSum-sum_into rows app.releases passes to sum is in
      let within = slice_get_within app.releases to has.there has.is in
      let bytes = ap (λ (o : Option Release). option_map_or (λ (r : Release). r.size) o 0) has.is in
      let adds = has.adds_up in
      record {
        permitted = permits-full to has.there has.is ∙ has.passed;
        rest = has.rest;
        rest_least = subst (λ (p : Option ℕ). IsPriceOf app key (At to) p) has.priced (on_track to within);
        adds_up = omega arith;
      }

  -- each chain begins with a full package that has a sum, which is no larger
  record HasWay (bytes : ℕ) : Type 0 where
    to : ℕ
    sum : ℕ
    within : to < length app.releases
    is : sums to ≡ Some sum
    low : sum ≤ bytes

  HasWay-chain : (payloads : List Payload) → IsChain app key place payloads → HasWay (sum_of app payloads)
  HasWay-chain [] leads = absurd (not_at_target app key version leads)
  HasWay-chain (Differ index ∷ payloads) leads = absurd (no_differ index leads.0)
  HasWay-chain (Full to ∷ payloads) leads =
      let found = full_there app key cohort target release place to track leads.0 in
      let within = slice_get_within app.releases to found.item found.is in
      cases within (price_at rows to) refl (on_track to within)
    where
      cases :
          to < length app.releases → (price : Option ℕ) → price_at rows to ≡ price →
          IsPriceOf app key (At to) price → HasWay (sum_of app (Full to ∷ payloads))
      cases within None is none = absurd (none payloads leads.1)
      cases within (Some rest) is least =
          let low = least.least payloads leads.1 in
          let whole = sum_by-cons (bytes_of app) (Full to) payloads in
          record {
            to = to;
            sum = bytes_of app (Full to) + rest;
            within = within;
            is = sum-permitted to rest (bytes_of app (Full to) + rest) leads.0 is refl;
            low = omega arith;
          }

  -- without a sum no chain leads to the target
  none-best : ((to : ℕ) → to < length app.releases → sums to ≡ None) → HasNoChain app key place
  none-best none payloads leads =
      let way = HasWay-chain payloads leads in
      let clash : None ≡ Some way.sum = sym (none way.to way.within) ∙ way.is in
      cc

  lower-or-last : (to best_to : ℕ) → to ≤ best_to → (ltb to best_to || (eqb to best_to && true)) ≡ true
  lower-or-last to best_to low = elim (cases_lt to best_to) [
    | inl less ↦ ap (λ b. b || (eqb to best_to && true)) (lt-ltb to best_to less)
    | inr high ↦
        ap (λ b. ltb to best_to || (b && true)) (eq-eqb to best_to (omega arith)) ∙ or-true (ltb to best_to)
  ]

  first-best : (best : Best) → IsBest sums (length app.releases) (Some best) → IsFirst app key place (Full best.to) best.sum
  first-best best is =
      let begins = begins-sum best.to best.sum is.is in
      record {
        least = record {
          chain = Full best.to ∷ begins.rest_least.chain;
          leads = (begins.permitted, begins.rest_least.leads);
          costs = sum_by-cons (bytes_of app) (Full best.to) begins.rest_least.chain ∙ ap (λ n. bytes_of app (Full best.to) + n) begins.rest_least.costs ∙ begins.adds_up;
          least = λ payloads leads.
              let way = HasWay-chain payloads leads in
              let low = way.low in
              elim (is.least way.to way.sum way.within way.is) [
                | inl less ↦ omega arith
                | inr same ↦ let equal = same.0 in omega arith
              ];
        };
        begins = begins;
        first = λ other others.
            let has = HasFull-begins other best.sum others in
            elim (is.least has.to best.sum has.within has.is) [
              | inl less ↦ absurd (omega arith)
              | inr same ↦
                  ap (λ (p : Payload). yields app p (Full best.to)) has.full ∙ lower-or-last has.to best.to same.1
            ];
      }

  pub quote-best : (best : Option Best) → IsBest sums (length app.releases) best → IsQuote app key place (best_quote best)
  quote-best None none = none-best none
  quote-best (Some best) is = (not_at_target app key version, first-best best is)
