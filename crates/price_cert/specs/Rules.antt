-- The four rules that each row of a table of prices is tested by, against the payloads of a graph; they
-- are those of potentials of shortest paths, with a rule for ties. This project's profile.
use Rattle.std.specs.Prelude.{◌≡◌, ℕ, ◌+◌, ◌<◌, ◌==◌, ◌&&◌, ◌||◌, not, Bool, true, false, if◌then◌else◌, List, length, nat_le, nat_lt, Option, None, Some}
use Rattle.std.specs.List.{list_all, list_any}
use Rattle.payload_graph.specs.Net.{Net, edges_from}
use Rattle.payload_graph.specs.declared.edge.Edge.{Edge}
use Rattle.payload_graph.specs.declared.edge.Kind.{Kind}
use Rattle.payload_graph.specs.declared.edge.Kind.TheVariants.{Full, Differ}
use Rattle.price_cert.specs.Rows.{price_at, price_of, row_at}
use Rattle.price_cert.specs.declared.row.Row.{Row}
use Rattle.price_cert.specs.declared.row.Row.TheVariants.{Nothing, End, Price}
use Rattle.price_cert.specs.declared.rules.Rule.{Rule}
use Rattle.price_cert.specs.declared.rules.Rule.TheVariants.{C1, C2, C3, C4}
use Rattle.price_cert.specs.declared.rules.Wrong.{Wrong}

-- rule: End row
-- C1: the row is the end exactly at the target
abbrev pub ends_at_target : ℕ → ℕ → Row → Bool
ends_at_target target from Nothing = not (from == target)
ends_at_target target from End = from == target
ends_at_target target from (Price price kind to) = not (from == target)

-- if a chain goes on from where a payload leads, there is a price, at most the payload's bytes and the
-- rest
abbrev pub is_at_most : Option ℕ → Option ℕ → ℕ → Bool
is_at_most None price bytes = true
is_at_most (Some rest) None bytes = false
is_at_most (Some rest) (Some price) bytes = nat_le price (bytes + rest)

-- a row's price is at most that by a payload
abbrev pub is_bounded : List Row → Row → Edge → Bool
is_bounded rows row edge = is_at_most (price_at rows edge.to) (price_of row) edge.bytes

-- rule: Bounded price
-- C2: each payload into a priced release finds the row priced, at most at the payload's bytes and that
-- release's price
abbrev pub meets_bounds : Net → List Row → ℕ → Row → Bool
meets_bounds net rows from row = list_all (is_bounded rows row) (edges_from net from)

-- the payload doesn't lead to a release, or keeps C2
abbrev pub is_bounded_to : List Row → Row → ℕ → Edge → Bool
is_bounded_to rows row to edge = not (edge.to == to) || is_bounded rows row edge

-- rule: Bounded pair
-- C2 of a pair of releases: it holds of each payload from the one to the other
abbrev pub meets_bounds_to : Net → List Row → ℕ → Row → ℕ → Bool
meets_bounds_to net rows from row to = list_all (is_bounded_to rows row to) (edges_from net from)

-- a price is a payload's bytes and the rest, if there is a rest
abbrev pub adds_up : Option ℕ → ℕ → ℕ → Bool
adds_up None price bytes = false
adds_up (Some rest) price bytes = price == bytes + rest

-- a price is the bytes of a payload into a priced release and that release's price
abbrev pub costs : List Row → ℕ → Edge → Bool
costs rows price edge = adds_up (price_at rows edge.to) price edge.bytes

-- two kinds of payload are the same
abbrev pub is_same_kind : Kind → Kind → Bool
is_same_kind Full Full = true
is_same_kind Full Differ = false
is_same_kind Differ Full = false
is_same_kind Differ Differ = true

-- the payload is the one that a row names
abbrev pub is_named : Kind → ℕ → Edge → Bool
is_named kind to edge = edge.to == to && is_same_kind kind edge.kind

-- the payload is the one that a row names, and gives the row's price
abbrev pub is_next : List Row → ℕ → Kind → ℕ → Edge → Bool
is_next rows price kind to edge = is_named kind to edge && costs rows price edge

-- rule: Attained price
-- C3: a price is that of its payload, which is permitted
abbrev pub is_attained : Net → List Row → ℕ → Row → Bool
is_attained net rows from Nothing = true
is_attained net rows from End = true
is_attained net rows from (Price price kind to) =
    list_any (is_next rows price kind to) (edges_from net from)

-- the payload leads lower than the one that a row names, or to the same release and isn't a
-- differential in its place
abbrev pub yields : Edge → Kind → ℕ → Bool
yields edge kind to =
    nat_lt edge.to to
    || (edge.to == to && (is_same_kind kind Differ || is_same_kind edge.kind Full))

-- the payload doesn't give the price, or yields to the one that the row names
abbrev pub is_first_or_larger : List Row → ℕ → Kind → ℕ → Edge → Bool
is_first_or_larger rows price kind to edge = not (costs rows price edge) || yields edge kind to

-- rule: First payload
-- C4: of the payloads that give the price, the row names the one that leads highest, and of two of
-- these the differential
abbrev pub comes_first : Net → List Row → ℕ → Row → Bool
comes_first net rows from Nothing = true
comes_first net rows from End = true
comes_first net rows from (Price price kind to) =
    list_all (is_first_or_larger rows price kind to) (edges_from net from)

-- the first of four tests that fails
abbrev pub first_failed : Bool → Bool → Bool → Bool → Option Rule
first_failed c1 c2 c3 c4 =
    if c1 then (if c2 then (if c3 then (if c4 then None else Some C4) else Some C3) else Some C2) else Some C1

-- rule: Broken rule
-- the first rule that a row of a release breaks, if any
abbrev pub broken_rule : Net → List Row → ℕ → Row → Option Rule
broken_rule net rows from row =
    first_failed
    (ends_at_target net.target from row)
    (meets_bounds net rows from row)
    (is_attained net rows from row)
    (comes_first net rows from row)

-- the same of the row that the table has for a release
abbrev pub broken_at : Net → List Row → ℕ → Option Rule
broken_at net rows from = broken_rule net rows from (row_at rows from)

-- rule: Broken rule of a row alone
-- the first rule but C2 that a row of a release breaks, if any
abbrev pub broken_alone : Net → List Row → ℕ → Row → Option Rule
broken_alone net rows from row =
    first_failed (ends_at_target net.target from row) true (is_attained net rows from row) (comes_first net rows from row)

-- rule: Certified table
-- a table is certified for a graph: it has a row for each release, and none of them breaks a rule
pub record AreCertified (net : Net) (rows : List Row) : Type 0 where
  pub sized : length rows ≡ length net.doors
  pub right : (from : ℕ) → from < length net.doors → broken_at net rows from ≡ None

-- rule: First wrong row
-- the first wrong row of a table, from the highest version, and the first rule that it breaks
pub record IsFirstWrong (net : Net) (rows : List Row) (wrong : Wrong) : Type 0 where
  pub within : wrong.row < length net.doors
  pub breaks : broken_at net rows wrong.row ≡ Some wrong.rule
  pub first : (from : ℕ) → wrong.row < from → from < length net.doors → broken_at net rows from ≡ None
