-- What a row that breaks no rule says.
use Rattle.std.proofs.Common.{◌≡◌, ℕ, ◌+◌, ◌<◌, ◌≤◌, ◌&&◌, ◌||◌, inl, inr, not, Bool, true, false, List, eqb, ltb, Option, None, Some, refl, sym, ap, ◌∙◌, arith}
use Rattle.std.specs.List.{Contains, list_all}
use Rattle.std.proofs.lemmas.Bool.{and_parts, eqb-true, eq-eqb, false≢true, leb-true, ltb-true, or_cases}
use Rattle.std.proofs.lemmas.List.Elements.{All-contains}
use Rattle.std.proofs.lemmas.List.Folds.{Any-from_list_any}
use Rattle.std.proofs.lemmas.List.Sums.{AllPass-from_list_all}
use Rattle.payload_graph.specs.Net.{Net, edges_from}
use Rattle.payload_graph.specs.declared.edge.Edge.{Edge}
use Rattle.payload_graph.specs.declared.edge.Kind.{Kind}
use Rattle.payload_graph.specs.declared.edge.Kind.TheVariants.{Full, Differ}
use Rattle.price_cert.specs.Rules.{adds_up, broken_rule, comes_first, costs, ends_at_target, first_failed, is_at_most, is_attained, is_named, is_next, is_same_kind, meets_bounds, yields}
use Rattle.price_cert.specs.declared.row.Row.{Row}
use Rattle.price_cert.specs.declared.row.Row.TheVariants.{Nothing, End, Price}

-- a row keeps all four rules
pub record Keeps (net : Net) (rows : List Row) (from : ℕ) (row : Row) : Type 0 where
  pub ends : ends_at_target net.target from row ≡ true
  pub bounded : meets_bounds net rows from row ≡ true
  pub attained : is_attained net rows from row ≡ true
  pub first : comes_first net rows from row ≡ true

record AreAll (c1 c2 c3 c4 : Bool) : Type 0 where
  one : c1 ≡ true
  two : c2 ≡ true
  three : c3 ≡ true
  four : c4 ≡ true

none_failed : (c1 c2 c3 c4 : Bool) → first_failed c1 c2 c3 c4 ≡ None → AreAll c1 c2 c3 c4
none_failed false c2 c3 c4 none = cc
none_failed true false c3 c4 none = cc
none_failed true true false c4 none = cc
none_failed true true true false none = cc
none_failed true true true true none = record { one = refl; two = refl; three = refl; four = refl }

pub Keeps-unbroken :
    (net : Net) (rows : List Row) (from : ℕ) (row : Row) →
    broken_rule net rows from row ≡ None → Keeps net rows from row
Keeps-unbroken net rows from row none =
    let all = none_failed (ends_at_target net.target from row) (meets_bounds net rows from row) (is_attained net rows from row) (comes_first net rows from row) none in
    record { ends = all.one; bounded = all.two; attained = all.three; first = all.four }

-- at the target the row is the end
pub end_at_target :
    (target from : ℕ) (row : Row) → ends_at_target target from row ≡ true → from ≡ target → row ≡ End
end_at_target target from Nothing ends same = absurd (false≢true (sym (ap not (eq-eqb from target same)) ∙ ends))
end_at_target target from End ends same = refl
end_at_target target from (Price price kind to) ends same =
    absurd (false≢true (sym (ap not (eq-eqb from target same)) ∙ ends))

-- a test that all of a list pass is passed by each of it
pub passed :
    {A : Type 0} (test : A → Bool) (xs : List A) (x : A) → list_all test xs ≡ true → Contains xs x → test x ≡ true
passed {A} test xs x all inside = All-contains (λ (y : A). test y ≡ true) xs x (AllPass-from_list_all test xs all) inside

-- a price of at most some sum
pub record IsPricedUpTo (price : Option ℕ) (sum : ℕ) : Type 0 where
  pub amount : ℕ
  pub is : price ≡ Some amount
  pub most : amount ≤ sum

pub IsPricedUpTo-bounded :
    (price : Option ℕ) (rest bytes : ℕ) →
    is_at_most (Some rest) price bytes ≡ true → IsPricedUpTo price (bytes + rest)
IsPricedUpTo-bounded None rest bytes bound = absurd (false≢true bound)
IsPricedUpTo-bounded (Some price) rest bytes bound =
    record { amount = price; is = refl; most = leb-true price (bytes + rest) bound }

-- what is left of a price after a payload's bytes
pub record HasRest (rest : Option ℕ) (price bytes : ℕ) : Type 0 where
  pub left : ℕ
  pub is : rest ≡ Some left
  pub sum : price ≡ bytes + left

pub HasRest-adds_up :
    (rest : Option ℕ) (price bytes : ℕ) → adds_up rest price bytes ≡ true → HasRest rest price bytes
HasRest-adds_up None price bytes adds = absurd (false≢true adds)
HasRest-adds_up (Some left) price bytes adds =
    record { left = left; is = refl; sum = eqb-true price (bytes + left) adds }

-- the payload that a row names
pub record HasNext (net : Net) (rows : List Row) (from price : ℕ) (kind : Kind) (to : ℕ) : Type 0 where
  pub edge : Edge
  pub inside : Contains (edges_from net from) edge
  pub named : is_named kind to edge ≡ true
  pub costing : costs rows price edge ≡ true

pub HasNext-attained :
    (net : Net) (rows : List Row) (from price : ℕ) (kind : Kind) (to : ℕ) →
    is_attained net rows from (Price price kind to) ≡ true → HasNext net rows from price kind to
HasNext-attained net rows from price kind to attained =
    let found = Any-from_list_any (is_next rows price kind to) (edges_from net from) attained in
    let edge = found.1 in
    let parts = and_parts (is_named kind to edge) (costs rows price edge) found.4 in
    record { edge = edge; inside = (found.0, found.2, found.3); named = parts.0; costing = parts.1 }

-- a payload of a kind to a release yields to another one
abbrev pub yields_to : Kind → ℕ → Kind → ℕ → Bool
yields_to kind to other_kind other =
    ltb to other || (eqb to other && (is_same_kind other_kind Differ || is_same_kind kind Full))

same_kind : (kind other : Kind) → is_same_kind kind other ≡ true → kind ≡ other
same_kind Full Full same = refl
same_kind Full Differ same = absurd (false≢true same)
same_kind Differ Full same = absurd (false≢true same)
same_kind Differ Differ same = refl

-- the payload that a row names yields where any payload of its sum does
pub yields_to-named :
    (edge : Edge) (kind : Kind) (to : ℕ) (other_kind : Kind) (other : ℕ) →
    is_named kind to edge ≡ true → yields edge other_kind other ≡ true →
    yields_to kind to other_kind other ≡ true
yields_to-named edge kind to other_kind other named yielding =
    let parts = and_parts (eqb edge.to to) (is_same_kind kind edge.kind) named in
    ap (λ n. yields_to kind n other_kind other) (sym (eqb-true edge.to to parts.0))
    ∙ ap (λ k. yields_to k edge.to other_kind other) (same_kind kind edge.kind parts.1)
    ∙ yielding

kinds_yield : (kind other : Kind) →
    (is_same_kind other Differ || is_same_kind kind Full) ≡ true →
    (is_same_kind kind Differ || is_same_kind other Full) ≡ true →
    kind ≡ other
kinds_yield Full Full one two = refl
kinds_yield Full Differ one two = absurd (false≢true two)
kinds_yield Differ Full one two = absurd (false≢true one)
kinds_yield Differ Differ one two = refl

-- two payloads that yield to one another are of one kind, to one release
pub record AreOne (kind other_kind : Kind) (to other : ℕ) : Type 0 where
  pub kinds : kind ≡ other_kind
  pub releases : to ≡ other

pub yields_to-both :
    (kind other_kind : Kind) (to other : ℕ) →
    yields_to kind to other_kind other ≡ true → yields_to other_kind other kind to ≡ true →
    AreOne kind other_kind to other
yields_to-both kind other_kind to other one two =
    elim (or_cases (ltb to other) (eqb to other && (is_same_kind other_kind Differ || is_same_kind kind Full)) one) [
      | inl lower ↦ absurd (not_lower (ltb-true to other lower))
      | inr level ↦
          let parts = and_parts (eqb to other) (is_same_kind other_kind Differ || is_same_kind kind Full) level in
          let same = eqb-true to other parts.0 in
          elim (or_cases (ltb other to) (eqb other to && (is_same_kind kind Differ || is_same_kind other_kind Full)) two) [
            | inl lower ↦ absurd (let less = ltb-true other to lower in omega arith)
            | inr back ↦
                let others = and_parts (eqb other to) (is_same_kind kind Differ || is_same_kind other_kind Full) back in
                record { kinds = kinds_yield kind other_kind parts.1 others.1; releases = same }
          ]
    ]
  where
    not_lower : to < other → ⊥
    not_lower less =
        elim (or_cases (ltb other to) (eqb other to && (is_same_kind kind Differ || is_same_kind other_kind Full)) two) [
          | inl lower ↦ let more = ltb-true other to lower in omega arith
          | inr back ↦
              let others = and_parts (eqb other to) (is_same_kind kind Differ || is_same_kind other_kind Full) back in
              let same = eqb-true other to others.0 in
              omega arith
        ]
