-- The differentials of a release are together.
use Rattle.std.proofs.Common.{◌≡◌, ℕ, ◌+◌, ◌-◌, ◌<◌, ◌≤◌, inl, inr, true, List, [], ◌∷◌, length, get_or, take, drop, sym, ◌∙◌, arith}
use Rattle.std.specs.List.{AllWithin, filter}
use Rattle.std.proofs.lemmas.Bool.{cases_lt, eq-eqb, ne_eqb}
use Rattle.payload_graph.proofs.FlatLemmas.{filter-same}
use Rattle.payload_graph.proofs.RangeLemmas.{between-range, filter-between}
use Rattle.payload_graph.specs.Net.{between, leaves}
use Rattle.payload_graph.specs.declared.edge.Edge.{Edge}
use Rattle.payload_graph.specs.declared.edge.Kind.TheVariants as kind

-- two places that part the differentials, at a release and at the next
pub record AreParted (differs : List Edge) (from start end : ℕ) : Type 0 where
  pub within : end ≤ length differs
  pub before : AllWithin (λ (edge : Edge). edge.from < from) differs 0 start
  pub behind : AllWithin (λ (edge : Edge). from ≤ edge.from) differs start (length differs)
  pub before_next : AllWithin (λ (edge : Edge). edge.from < from + 1) differs 0 end
  pub behind_next : AllWithin (λ (edge : Edge). from + 1 ≤ edge.from) differs end (length differs)

-- the default of an item
abbrev no_edge : Edge
no_edge = record { from = 0; to = 0; kind = kind.Full; bytes = 0 }

some_edge : (differs : List Edge) (k : ℕ) → k < length differs → Edge
some_edge [] k within = absurd (omega arith)
some_edge (edge ∷ differs) k within = edge

pub in_order :
    (differs : List Edge) (from start end : ℕ) →
    start ≤ length differs → AreParted differs from start end → start ≤ end
in_order differs from start end within parted = elim (cases_lt end start) [
  | inl less ↦
      let edge = some_edge differs end (omega arith) in
      let low = parted.before end edge (omega arith) less in
      let high = parted.behind_next end edge (omega arith) (omega arith) in
      absurd (omega arith)
  | inr more ↦ more
]

pub filter-leaves :
    (differs : List Edge) (from start end : ℕ) →
    start ≤ length differs → AreParted differs from start end →
    take (end - start) (drop start differs) ≡ filter (leaves from) differs
filter-leaves differs from start end within parted =
    between-range differs start end (in_order differs from start end within parted)
    ∙ sym (filter-same true (between start end differs))
    ∙ sym (filter-between (leaves from) (λ (edge : Edge). true) no_edge differs start end (record {
      below = λ k there less.
          let low = parted.before k no_edge (omega arith) less in
          ne_eqb from (get_or differs k no_edge).from (λ same. omega arith);
      above = λ k there more.
          let high = parted.behind_next k no_edge more there in
          ne_eqb from (get_or differs k no_edge).from (λ same. omega arith);
      inside = λ k there less more.
          let high = parted.behind k no_edge less there in
          let low = parted.before_next k no_edge (omega arith) more in
          eq-eqb from (get_or differs k no_edge).from (omega arith);
    }))
