-- The prices of a certified table are small.
use Rattle.std.proofs.Common.{◌≡◌, ℕ, ◌+◌, ◌*◌, ◌<◌, ◌≤◌, ◌⊎◌, inl, inr, true, leb, length, List, Option, None, Some, IfSome, refl, sym, ◌∙◌, subst, arith}
use Rattle.std.specs.List.{Contains}
use Rattle.std.proofs.lemmas.Bool.{and_parts, cases_lt, eqb-true, leb-true}
use Rattle.std.proofs.lemmas.List.Elements.{All-contains}
use Rattle.catalogue.specs.Forms.{is_size}
use Rattle.payload_graph.specs.Laws.{EdgesAreSized, EdgesLeadNearer}
use Rattle.payload_graph.specs.Net.{Net, edges_from}
use Rattle.payload_graph.specs.Soundness.{LeadsNearer}
use Rattle.payload_graph.specs.declared.edge.Edge.{Edge}
use Rattle.price_cert.proofs.InductionLemmas.{by_nearness}
use Rattle.price_cert.proofs.LeastLemmas.{keeps, leads_nearer, nearer-within}
use Rattle.price_cert.proofs.RuleLemmas.{HasNext-attained, HasRest-adds_up, Keeps}
use Rattle.price_cert.specs.Laws.{AreSmall, IsGraph, IsSmall}
use Rattle.price_cert.specs.Rows.{price_at, price_of, row_at}
use Rattle.price_cert.specs.Rules.{AreCertified}
use Rattle.price_cert.specs.declared.row.Row.{Row}
use Rattle.price_cert.specs.declared.row.Row.TheVariants.{Nothing, End, Price}

-- a sum of at most the largest package for each release on the way: up to the target, or down from
-- above it
record IsWithin (target from sum : ℕ) : Type 0 where
  up : from ≤ target → sum + 1099511627776 * from ≤ 1099511627776 * target
  down : target < from → sum ≤ 1099511627776 * from

-- one package more, from a release further from the target
IsWithin-more :
    (target from to bytes sum : ℕ) →
    LeadsNearer target from to → bytes ≤ 1099511627776 → IsWithin target to sum → IsWithin target from (bytes + sum)
IsWithin-more target from to bytes sum near sized within = elim near [
  | inl upward ↦
      let less = upward.0 in
      let below = upward.1 in
      let rest = within.up below in
      record { up = λ low. omega arith; down = λ past. absurd (omega arith) }
  | inr downward ↦
      let past = downward.0 in
      let less = downward.1 in
      record { up = λ low. absurd (omega arith); down = λ above. lower past less (cases_lt target to) }
]
  where
    lower : target < from → to < from → (target < to) ⊎ (to ≤ target) → bytes + sum ≤ 1099511627776 * from
    lower past less (inl above) = let rest = within.down above in omega arith
    lower past less (inr below) = let rest = within.up below in omega arith

-- the least sum of a release in range is small
IsSmall-within :
    (net : Net) (from sum : ℕ) → IsGraph net → from < length net.doors → IsWithin net.target from sum → IsSmall sum
IsSmall-within net from sum graph there within = elim (cases_lt net.target from) [
  | inl above ↦ let few = graph.bounded.few in let most = within.down above in omega arith
  | inr below ↦ let few = graph.bounded.few in let aim = graph.within in let most = within.up below in omega arith
]

module _ (nearer : EdgesLeadNearer) (are_sized : EdgesAreSized) (net : Net) (rows : List Row) (graph : IsGraph net) (certified : AreCertified net rows) where
  abbrev PriceIsWithin : ℕ → Type 0
  PriceIsWithin from = from < length net.doors → (price : ℕ) → price_at rows from ≡ Some price → IsWithin net.target from price

  sized : (from : ℕ) (edge : Edge) → Contains (edges_from net from) edge → edge.bytes ≤ 1099511627776
  sized from edge inside =
      let size = All-contains (λ (e : Edge). is_size e.bytes ≡ true) (edges_from net from) edge (are_sized net from graph.bounded) inside in
      leb-true edge.bytes 1099511627776 (and_parts (leb 1 edge.bytes) (leb edge.bytes 1099511627776) size).1

  row_within :
      (from : ℕ) → from < length net.doors →
      ((to : ℕ) → LeadsNearer net.target from to → PriceIsWithin to) →
      (row : Row) → Keeps net rows from row → (price : ℕ) → price_of row ≡ Some price →
      IsWithin net.target from price
  row_within from there below Nothing kept price is = cc
  row_within from there below End kept price is =
      let same : 0 ≡ price = cc in
      let own = eqb-true from net.target kept.ends in
      record { up = λ low. omega arith; down = λ past. omega arith }
  row_within from there below (Price sum kind to) kept price is =
      let next = HasNext-attained net rows from sum kind to kept.attained in
      let edge = next.edge in
      let near = leads_nearer nearer net from edge graph there next.inside in
      let adds = HasRest-adds_up (price_at rows edge.to) sum edge.bytes next.costing in
      let rest = below edge.to near (nearer-within net from edge.to graph there near) adds.left adds.is in
      let same : sum ≡ price = cc in
      subst (IsWithin net.target from) (sym adds.sum ∙ same)
      (IsWithin-more net.target from edge.to edge.bytes adds.left near (sized from edge next.inside) rest)

  prices_within : (from : ℕ) → PriceIsWithin from
  prices_within = by_nearness PriceIsWithin net.target (λ from below there price is.
      row_within from there below (row_at rows from) (keeps nearer net rows graph certified from there) price is)

  pub prices_are_small : AreSmall net rows
  prices_are_small from there = cases (price_at rows from) refl
    where
      cases : (price : Option ℕ) → price_at rows from ≡ price → IfSome price IsSmall
      cases None is = tt
      cases (Some price) is = IsSmall-within net from price graph there (prices_within from there price is)
