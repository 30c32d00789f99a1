-- A row keeps C2 exactly if each pair of its release and another one does.
use Rattle.std.proofs.Common.{◌≡◌, ℕ, ◌&&◌, ◌||◌, not, Bool, true, false, List, [], ◌∷◌, eqb, refl, sym, ap, ◌∙◌}
use Rattle.std.specs.List.{list_all}
use Rattle.std.proofs.lemmas.Bool.{and_parts, eq-eqb}
use Rattle.payload_graph.specs.Net.{edges_from}
use Rattle.payload_graph.specs.declared.edge.Edge.{Edge}
use Rattle.price_cert.specs.Laws.{PairsDecideBounds}
use Rattle.price_cert.specs.Rules.{is_bounded, is_bounded_to}
use Rattle.price_cert.specs.declared.row.Row.{Row}

-- a payload that keeps C2 keeps it of each pair
of_pair : (other bounded rest : Bool) → bounded ≡ true → rest ≡ true → ((other || bounded) && rest) ≡ true
of_pair true bounded rest own others = others
of_pair false bounded rest own others = ap (λ b. b && rest) own ∙ others

pairs-whole :
    (rows : List Row) (row : Row) (to : ℕ) (edges : List Edge) →
    list_all (is_bounded rows row) edges ≡ true → list_all (is_bounded_to rows row to) edges ≡ true
pairs-whole rows row to [] all = refl
pairs-whole rows row to (edge ∷ edges) all =
    let parts = and_parts (is_bounded rows row edge) (list_all (is_bounded rows row) edges) all in
    of_pair (not (eqb edge.to to)) (is_bounded rows row edge) (list_all (is_bounded_to rows row to) edges) parts.0
    (pairs-whole rows row to edges parts.1)

whole-pairs :
    (rows : List Row) (row : Row) (edges : List Edge) →
    ((to : ℕ) → list_all (is_bounded_to rows row to) edges ≡ true) → list_all (is_bounded rows row) edges ≡ true
whole-pairs rows row [] each = refl
whole-pairs rows row (edge ∷ edges) each =
    let parts = and_parts (is_bounded_to rows row edge.to edge) (list_all (is_bounded_to rows row edge.to) edges) (each edge.to) in
    let own : is_bounded rows row edge ≡ true = sym (ap (λ b. not b || is_bounded rows row edge) (eq-eqb edge.to edge.to refl)) ∙ parts.0 in
    ap (λ b. b && list_all (is_bounded rows row) edges) own
    ∙ whole-pairs rows row edges (λ to. (and_parts (is_bounded_to rows row to edge) (list_all (is_bounded_to rows row to) edges) (each to)).1)

pub pairs_decide_bounds : PairsDecideBounds
pairs_decide_bounds net rows from row =
    ((λ all to. pairs-whole rows row to (edges_from net from) all), whole-pairs rows row (edges_from net from))
