-- Best rows keep the rules of a table.
use Rattle.std.proofs.Common.{◌≡◌, ℕ, ◌+◌, inl, inr, not, Bool, true, false, List, [], ◌∷◌, length, Option, None, Some, refl, ap, ◌∙◌, arith}
use Rattle.std.specs.List.{list_all}
use Rattle.std.proofs.lemmas.Bool.{and_from, and_parts, cases_eq, cases_lt, eq-eqb, false≢true, le-leb, ne_eqb}
use Rattle.payload_graph.specs.Net.{Net, edges_from}
use Rattle.price_cert.proofs.BestLemmas.{list_all-follows}
use Rattle.price_cert.specs.Best.{AreBest, IsBest, IsBestTable, is_no_better, is_larger_or_yields, names_one}
use Rattle.price_cert.specs.Rows.{price_at, row_at}
use Rattle.price_cert.specs.Rules.{AreCertified, broken_rule, comes_first, ends_at_target, first_failed, is_at_most, is_attained, is_bounded, is_first_or_larger, meets_bounds}
use Rattle.price_cert.specs.declared.row.Row.{Row}
use Rattle.price_cert.specs.declared.row.Row.TheVariants.{Nothing, End, Price}

-- no rule is broken if each one is kept
unbroken :
    (c1 c2 c3 c4 : Bool) → c1 ≡ true → c2 ≡ true → c3 ≡ true → c4 ≡ true → first_failed c1 c2 c3 c4 ≡ None
unbroken true true true true one two three four = refl
unbroken true true true false one two three four = absurd (false≢true four)
unbroken true true false c4 one two three four = absurd (false≢true three)
unbroken true false c3 c4 one two three four = absurd (false≢true two)
unbroken false c2 c3 c4 one two three four = absurd (false≢true one)

-- a test that each item passes
list_all-each : {A : Type 0} (p : A → Bool) → ((x : A) → p x ≡ true) → (xs : List A) → list_all p xs ≡ true
list_all-each p each [] = refl
list_all-each p each (x ∷ xs) = and_from (p x) (list_all p xs) (each x) (list_all-each p each xs)

-- the row of the target breaks no rule
pub unbroken-target : (net : Net) (rows : List Row) → broken_rule net rows net.target End ≡ None
unbroken-target net rows =
    unbroken (ends_at_target net.target net.target End) (meets_bounds net rows net.target End) true true
    (eq-eqb net.target net.target refl)
    (list_all-each (is_bounded rows End) (λ edge. at_most (price_at rows edge.to) edge.bytes) (edges_from net net.target))
    refl refl
  where
    at_most : (rest : Option ℕ) (bytes : ℕ) → is_at_most rest (Some 0) bytes ≡ true
    at_most None bytes = refl
    at_most (Some rest) bytes = le-leb 0 (bytes + rest) (omega arith)

-- nor does the best row of another release
pub unbroken-best :
    (net : Net) (rows : List Row) (from : ℕ) → (from ≡ net.target → ⊥) → (row : Row) →
    IsBest rows (edges_from net from) row → broken_rule net rows from row ≡ None
unbroken-best net rows from apart row best =
    unbroken (ends_at_target net.target from row) (meets_bounds net rows from row) (is_attained net rows from row) (comes_first net rows from row)
    (ends row best.names)
    (list_all-follows (is_no_better rows row) (is_bounded rows row)
    (λ edge behind. (and_parts (is_bounded rows row edge) (is_larger_or_yields (price_at rows edge.to) row edge) behind).0)
    (edges_from net from) best.behind)
    (attains row best.names)
    (firsts row best.behind)
  where
    ends : (row : Row) → names_one rows (edges_from net from) row ≡ true → ends_at_target net.target from row ≡ true
    ends Nothing names = ap not (ne_eqb from net.target apart)
    ends End names = absurd (false≢true names)
    ends (Price price kind to) names = ap not (ne_eqb from net.target apart)

    attains : (row : Row) → names_one rows (edges_from net from) row ≡ true → is_attained net rows from row ≡ true
    attains Nothing names = refl
    attains End names = refl
    attains (Price price kind to) names = names

    firsts : (row : Row) → list_all (is_no_better rows row) (edges_from net from) ≡ true → comes_first net rows from row ≡ true
    firsts Nothing behind = refl
    firsts End behind = refl
    firsts (Price price kind to) behind =
        list_all-follows (is_no_better rows (Price price kind to)) (is_first_or_larger rows price kind to)
        (λ edge each. (and_parts (is_bounded rows (Price price kind to) edge) (is_first_or_larger rows price kind to edge) each).1)
        (edges_from net from) behind

-- a table whose rows are the best ones is certified
pub AreCertified-best : (net : Net) (rows : List Row) → IsBestTable net rows → AreCertified net rows
AreCertified-best net rows table = record {
  sized = table.sized;
  right = λ from within.
      elim (cases_eq from net.target) [
        | inl same ↦
            ap (λ n. broken_rule net rows n (row_at rows n)) same
            ∙ ap (broken_rule net rows net.target) table.target
            ∙ unbroken-target net rows
        | inr apart ↦ unbroken-best net rows from apart (row_at rows from) (table.best from within apart)
      ];
}

-- the best rows below the target and above it, with the end between them, are a table
pub AreCertified-passed :
    (net : Net) (rows : List Row) → length rows ≡ length net.doors → row_at rows net.target ≡ End →
    AreBest net rows 0 net.target → AreBest net rows (net.target + 1) (length net.doors) → AreCertified net rows
AreCertified-passed net rows sized target below above = AreCertified-best net rows (record {
  sized = sized;
  target = target;
  best = λ from within apart. elim (cases_lt from net.target) [
    | inl low ↦ below from (omega arith) low
    | inr high ↦ above from (omega arith) within
  ];
})
