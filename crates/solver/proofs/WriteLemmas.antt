-- A row more is settled.
use Rattle.std.proofs.Common.{◌≡◌, ℕ, ◌<◌, ◌≤◌, ◌&&◌, inl, inr, true, List, length, set, Option, IfSome, refl, sym, ap, ◌∙◌, subst, arith}
use Rattle.std.specs.List.{All}
use Rattle.std.proofs.lemmas.Bool.{cases_eq}
use Rattle.std.proofs.lemmas.List.{get_or-set_other, get_or-set_same, length-set}
use Rattle.std.proofs.lemmas.List.Elements.{All-weaker}
use Rattle.payload_graph.specs.Laws.{EdgesAreSized, EdgesLeadNearer}
use Rattle.payload_graph.specs.Net.{Net, edges_from}
use Rattle.payload_graph.specs.Soundness.{LeadsNearer}
use Rattle.payload_graph.specs.declared.edge.Edge.{Edge}
use Rattle.price_cert.specs.Laws.{IsGraph}
use Rattle.price_cert.specs.Rows.{price_at, price_of, row_at}
use Rattle.price_cert.specs.Rules.{adds_up, is_named, is_next}
use Rattle.price_cert.specs.declared.row.Row.{Row}
use Rattle.price_cert.specs.declared.row.Row.TheVariants.{Nothing, End, Price}
use Rattle.solver.proofs.ListLemmas.{list_all-agree, list_any-agree}
use Rattle.solver.proofs.SettledLemmas.{IsWithin-best}
use Rattle.price_cert.specs.Best.{IsBest, is_no_better, is_no_better_by, names_one}
use Rattle.solver.specs.Settled.{AreSettled, AreWithin, IsWithin}

-- a row that is written changes no other one
row_at-write :
    (rows : List Row) (from release : ℕ) (row : Row) →
    (release ≡ from → ⊥) → row_at (set rows from row) release ≡ row_at rows release
row_at-write rows from release row apart = get_or-set_other rows from release row Nothing apart

-- the best of a list looks only at the releases that its payloads lead to
pub IsBest-write :
    (rows : List Row) (from : ℕ) (row : Row) (edges : List Edge) →
    All (λ (edge : Edge). edge.to ≡ from → ⊥) edges → (best : Row) →
    IsBest rows edges best → IsBest (set rows from row) edges best
IsBest-write rows from row edges apart best is = record {
  behind =
      list_all-agree (is_no_better (set rows from row) best) (is_no_better rows best) edges
      (All-weaker (λ (edge : Edge). edge.to ≡ from → ⊥) (λ (edge : Edge). is_no_better (set rows from row) best edge ≡ is_no_better rows best edge)
      (λ edge other. ap (λ (rest : Option ℕ). is_no_better_by rest best edge) (same edge.to other))
      edges apart)
      ∙ is.behind;
  names = names best is.names;
}
  where
    same : (release : ℕ) → (release ≡ from → ⊥) → price_at (set rows from row) release ≡ price_at rows release
    same release other = ap price_of (row_at-write rows from release row other)

    names : (best : Row) → names_one rows edges best ≡ true → names_one (set rows from row) edges best ≡ true
    names Nothing named = refl
    names End named = named
    names (Price price kind to) named =
        list_any-agree (is_next (set rows from row) price kind to) (is_next rows price kind to) edges
        (All-weaker (λ (edge : Edge). edge.to ≡ from → ⊥) (λ (edge : Edge). is_next (set rows from row) price kind to edge ≡ is_next rows price kind to edge)
        (λ edge other. ap (λ (rest : Option ℕ). is_named kind to edge && adds_up rest price edge.bytes) (same edge.to other))
        edges apart)
        ∙ named

module _ (nearer : EdgesLeadNearer) (are_sized : EdgesAreSized) (net : Net) (graph : IsGraph net) where
  -- payloads of a release lead nearer the target
  pub nearer-from : (from : ℕ) → from < length net.doors → All (λ (edge : Edge). LeadsNearer net.target from edge.to) (edges_from net from)
  nearer-from from there = nearer net from graph.numbered graph.nearing graph.within there

  -- a row is written, of a release that no settled one leads to
  module _ (rows : List Row) (low high from : ℕ) (row : Row) (settled : AreSettled net rows low high) (there : from < length net.doors) (apart : from ≡ net.target → ⊥) (best : IsBest rows (edges_from net from) row) where
    inside : from < length rows
    inside = let sized = settled.sized in omega arith

    row_at-own : row_at (set rows from row) from ≡ row
    row_at-own = get_or-set_same rows from row Nothing inside

    within-write : AreWithin net.target (set rows from row)
    within-write release = elim (cases_eq release from) [
      | inl same ↦
          subst (λ n. IfSome (price_at (set rows from row) n) (IsWithin net.target n)) (sym same)
          (subst (λ (r : Row). IfSome (price_of r) (IsWithin net.target from)) (sym row_at-own)
          (IsWithin-best nearer are_sized net rows from graph settled.within there row best))
      | inr other ↦
          subst (λ (r : Row). IfSome (price_of r) (IsWithin net.target release)) (sym (row_at-write rows from release row other))
          (settled.within release)
    ]

    -- payloads don't lead to it from releases that are nearer the target
    pub AreSettled-write :
        (lower upper : ℕ) →
        ((release : ℕ) → lower ≤ release → release < upper → (release ≡ from → ⊥) → (low ≤ release) × (release < high)) →
        ((release : ℕ) → low ≤ release → release < high → LeadsNearer net.target release from → ⊥) →
        (low ≤ high) → high ≤ length net.doors →
        (LeadsNearer net.target from from → ⊥) →
        AreSettled net (set rows from row) lower upper
    AreSettled-write lower upper others behind ordered within ahead = record {
      sized = length-set rows from row ∙ settled.sized;
      within = within-write;
      target = row_at-write rows from net.target row (λ same. apart (sym same)) ∙ settled.target;
      best = λ release least most away. elim (cases_eq release from) [
        | inl same ↦
            subst (λ n. IsBest (set rows from row) (edges_from net n) (row_at (set rows from row) n)) (sym same)
            (subst (λ (r : Row). IsBest (set rows from row) (edges_from net from) r) (sym row_at-own)
            (IsBest-write rows from row (edges_from net from) (to-other from there ahead) row best))
        | inr other ↦
            let known = others release least most other in
            subst (λ (r : Row). IsBest (set rows from row) (edges_from net release) r) (sym (row_at-write rows from release row other))
            (IsBest-write rows from row (edges_from net release)
            (to-other release (let last = known.1 in omega arith) (behind release known.0 known.1))
            (row_at rows release) (settled.best release known.0 known.1 away))
      ];
    }
      where
        to-other :
            (release : ℕ) → release < length net.doors → (LeadsNearer net.target release from → ⊥) →
            All (λ (edge : Edge). edge.to ≡ from → ⊥) (edges_from net release)
        to-other release inside never =
            All-weaker (λ (edge : Edge). LeadsNearer net.target release edge.to) (λ (edge : Edge). edge.to ≡ from → ⊥)
            (λ edge near same. never (subst (LeadsNearer net.target release) same near))
            (edges_from net release) (nearer-from release inside)
