-- Rows that name the best payloads break no rule, and pieces of them join.
use Rattle.std.proofs.Common.{◌≡◌, ℕ, ◌+◌, ◌-◌, inl, inr, List, None, ap, ◌∙◌, arith}
use Rattle.std.specs.List.{All, range_with_len}
use Rattle.std.proofs.lemmas.Bool.{cases_eq, cases_lt}
use Rattle.payload_graph.specs.Net.{Net, edges_from}
use Rattle.price_cert.proofs.PassLemmas.{unbroken-best, unbroken-target}
use Rattle.price_cert.specs.Best.{IsBest}
use Rattle.price_cert.specs.Rows.{row_at}
use Rattle.price_cert.specs.Rules.{broken_at, broken_rule}
use Rattle.price_cert.specs.declared.row.Row.{Row}
use Rattle.price_cert.specs.declared.row.Row.TheVariants.{End}
use Rattle.omaha_commands.specs.Pieces.{AreUnbroken, bound_of}

-- the row of a release other than the target, if it is the best one
pub broken_at-best :
    (net : Net) (rows : List Row) (from : ℕ) (row : Row) → (from ≡ net.target → ⊥) → row_at rows from ≡ row →
    IsBest rows (edges_from net from) row → broken_at net rows from ≡ None
broken_at-best net rows from row apart is best = ap (broken_rule net rows from) is ∙ unbroken-best net rows from apart row best

-- the row of the target
pub broken_at-end : (net : Net) (rows : List Row) → row_at rows net.target ≡ End → broken_at net rows net.target ≡ None
broken_at-end net rows is = ap (broken_rule net rows net.target) is ∙ unbroken-target net rows

-- the same with the row of the target between them
pub AreUnbroken-around :
    (net : Net) (rows : List Row) (low high : ℕ) → row_at rows net.target ≡ End →
    AreUnbroken net rows low net.target → AreUnbroken net rows (net.target + 1) high → AreUnbroken net rows low high
AreUnbroken-around net rows low high is one other from after before = elim (cases_lt from net.target) [
  | inl below ↦ one from after below
  | inr above ↦ elim (cases_eq from net.target) [
    | inl same ↦ ap (broken_at net rows) same ∙ broken_at-end net rows is
    | inr apart ↦ other from (omega arith) before
  ]
]

-- unbroken rows, and the one before them
pub AreUnbroken-before :
    (net : Net) (rows : List Row) (from high : ℕ) → broken_at net rows (from - 1) ≡ None → AreUnbroken net rows from high →
    AreUnbroken net rows (from - 1) high
AreUnbroken-before net rows from high one others index after before = elim (cases_eq index (from - 1)) [
  | inl same ↦ ap (broken_at net rows) same ∙ one
  | inr apart ↦ others index (omega arith) before
]

-- the same of the one after them
pub AreUnbroken-after :
    (net : Net) (rows : List Row) (low from : ℕ) → broken_at net rows from ≡ None → AreUnbroken net rows low from →
    AreUnbroken net rows low (from + 1)
AreUnbroken-after net rows low from one others index after before = elim (cases_eq index from) [
  | inl same ↦ ap (broken_at net rows) same ∙ one
  | inr apart ↦ others index after (omega arith)
]

-- both pieces of so many rows from a first one on are all of them
pub AreUnbroken-pieces :
    (net : Net) (rows : List Row) (first count : ℕ) →
    All (λ piece. AreUnbroken net rows (first + bound_of count piece) (first + bound_of count (piece + 1))) (range_with_len 0 2) →
    AreUnbroken net rows first (first + count)
AreUnbroken-pieces net rows first count pieces index after before = elim (cases_lt index (first + bound_of count 1)) [
  | inl below ↦ pieces 0 0 (omega arith) index (omega arith) below
  | inr above ↦ pieces 1 0 (omega arith) index (omega arith) (omega arith)
]
