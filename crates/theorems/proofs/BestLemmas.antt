-- Of the payloads that begin a chain from a place, the best one: of the least sum, and of equal sums the
-- one of the highest score.
use Rattle.std.proofs.Common.{◌≡◌, ℕ, zero, suc, ◌+◌, ◌<◌, ◌⊎◌, inl, inr, Bool, true, false, Option, None, Some, refl, sym, ap, ◌∙◌, subst, arith}
use Rattle.std.proofs.lemmas.Bool.{cases_eq, false≢true}
use Rattle.catalogue.specs.declared.content.App.{App}
use Rattle.payload_graph.specs.Chains.{bytes_of, destination_of}
use Rattle.payload_graph.specs.Permitted.{permits}
use Rattle.payload_graph.specs.declared.payload.Payload.{Payload}
use Rattle.payload_graph.specs.declared.payload.TrackKey.{TrackKey}
use Rattle.payload_graph.specs.declared.place.Place.{Place}
use Rattle.payload_graph.specs.declared.place.Place.TheVariants.{At}
use Rattle.quotes.specs.Quotes.{Begins}
use Rattle.quotes.specs.Sums.{IsPriceOf}
use Rattle.theorems.proofs.ChainLemmas.{IsLeast-one}
use Rattle.theorems.proofs.YieldLemmas.{IsBefore, IsBefore-total, IsBefore-trans, score}
use Rattle.theorems.proofs.PickLemmas.{pick}

-- a place with its least sum, if a chain begins there
pub record HasPrice (app : App) (key : TrackKey) (place : Place) : Type 0 where
  pub price : Option ℕ
  pub is : IsPriceOf app key place price

-- at a place from where each permitted payload leads to a release whose least sum is known
module _ (app : App) (key : TrackKey) (place : Place) (ahead : (payload : Payload) → permits app key place payload ≡ true →
    HasPrice app key (At (destination_of app payload))) where
  -- a payload begins chains of one sum
  Begins-one : (payload : Payload) (sum other : ℕ) → Begins app key place payload sum → Begins app key place payload other →
      sum ≡ other
  Begins-one payload sum other begins others =
      let rest = IsLeast-one app key (At (destination_of app payload)) begins.rest others.rest begins.rest_least others.rest_least in
      let one = begins.adds_up in
      let two = others.adds_up in
      omega arith

  -- the sum of the chains that a payload begins, if it begins one
  abbrev IsSum : Payload → Option ℕ → Type 0
  IsSum payload None = (sum : ℕ) → ¬ (Begins app key place payload sum)
  IsSum payload (Some sum) = Begins app key place payload sum

  record HasSum (payload : Payload) : Type 0 where
    sum : Option ℕ
    is : IsSum payload sum

  HasSum-payload : (payload : Payload) → HasSum payload
  HasSum-payload payload = by_test (permits app key place payload) refl
    where
      by_price : permits app key place payload ≡ true → (price : Option ℕ) →
          IsPriceOf app key (At (destination_of app payload)) price → HasSum payload
      by_price permitted None none =
          record { sum = None; is = λ sum begins. none begins.rest_least.chain begins.rest_least.leads }
      by_price permitted (Some rest) least =
          record {
            sum = Some (bytes_of app payload + rest);
            is = record { permitted = permitted; rest = rest; rest_least = least; adds_up = refl };
          }

      by_test : (b : Bool) → permits app key place payload ≡ b → HasSum payload
      by_test false is = record { sum = None; is = λ sum begins. false≢true (sym is ∙ begins.permitted) }
      by_test true is =
          let there = ahead payload is in
          by_price is there.price there.is

  -- none of the first payloads begins a chain
  abbrev pub IsNone : ℕ → Type 0
  IsNone limit = (number sum : ℕ) → number < limit → ¬ (Begins app key place (pick app number) sum)

  -- the best one of the first payloads
  pub record HasBest (limit : ℕ) : Type 0 where
    pub payload : Payload
    pub sum : ℕ
    pub begins : Begins app key place payload sum
    pub best : (number other : ℕ) → number < limit → Begins app key place (pick app number) other →
        IsBefore sum (score app payload) other (score app (pick app number))

  abbrev at_number : (number limit sum : ℕ) → number ≡ limit → Begins app key place (pick app number) sum →
      Begins app key place (pick app limit) sum
  at_number number limit sum same begins = subst (λ (n : ℕ). Begins app key place (pick app n) sum) same begins

  more : (limit : ℕ) → IsNone limit ⊎ HasBest limit → (sum : Option ℕ) → IsSum (pick app limit) sum →
      IsNone (suc limit) ⊎ HasBest (suc limit)
  more limit (inl none) None nothing =
      inl (λ number sum within begins. elim (cases_eq number limit) [
        | inl same ↦ nothing sum (at_number number limit sum same begins)
        | inr other ↦ none number sum (omega arith) begins
      ])
  more limit (inl none) (Some sum) begins =
      inr (record {
        payload = pick app limit;
        sum = sum;
        begins = begins;
        best = λ number other within others. elim (cases_eq number limit) [
          | inl same ↦ inr (
            Begins-one (pick app limit) sum other begins (at_number number limit other same others),
            let scores = ap (λ (n : ℕ). score app (pick app n)) same in omega arith,
          )
          | inr apart ↦ absurd (none number other (omega arith) others)
        ];
      })
  more limit (inr has) None nothing =
      inr (record {
        payload = has.payload;
        sum = has.sum;
        begins = has.begins;
        best = λ number other within others. elim (cases_eq number limit) [
          | inl same ↦ absurd (nothing other (at_number number limit other same others))
          | inr apart ↦ has.best number other (omega arith) others
        ];
      })
  more limit (inr has) (Some sum) begins = by_order
      (IsBefore-total has.sum (score app has.payload) sum (score app (pick app limit)))
    where
      by_order :
          IsBefore has.sum (score app has.payload) sum (score app (pick app limit)) ⊎ IsBefore sum (score app (pick app limit))
          has.sum (score app has.payload) →
          IsNone (suc limit) ⊎ HasBest (suc limit)
      by_order (inl keeps) =
          inr (record {
            payload = has.payload;
            sum = has.sum;
            begins = has.begins;
            best = λ number other within others. elim (cases_eq number limit) [
              | inl same ↦
                  let own = Begins-one (pick app limit) sum other begins (at_number number limit other same others) in
                  let with_sum = subst (λ (n : ℕ). IsBefore has.sum (score app has.payload) n (score app (pick app limit))) own
                  keeps in
                  subst (λ (n : ℕ). IsBefore has.sum (score app has.payload) other (score app (pick app n))) (sym same) with_sum
              | inr apart ↦ has.best number other (omega arith) others
            ];
          })
      by_order (inr beats) =
          inr (record {
            payload = pick app limit;
            sum = sum;
            begins = begins;
            best = λ number other within others. elim (cases_eq number limit) [
              | inl same ↦ inr (
                Begins-one (pick app limit) sum other begins (at_number number limit other same others),
                let scores = ap (λ (n : ℕ). score app (pick app n)) same in omega arith,
              )
              | inr apart ↦
                  IsBefore-trans sum (score app (pick app limit)) has.sum (score app has.payload) other
                  (score app (pick app number)) beats
                  (has.best number other (omega arith) others)
            ];
          })

  pub best_of : (limit : ℕ) → IsNone limit ⊎ HasBest limit
  best_of zero = inl (λ number sum within begins. omega arith)
  best_of (suc limit) =
      let there = HasSum-payload (pick app limit) in
      more limit (best_of limit) there.sum there.is
