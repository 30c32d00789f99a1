-- The best payload of a list, by a table of prices: of the least sum, of those the one that leads highest,
-- and of two of these the differential.
use Rattle.std.specs.Prelude.{◌≡◌, ℕ, ◌+◌, ◌-◌, ◌^◌, ◌<◌, ◌≤◌, ◌==◌, ◌&&◌, ◌||◌, not, Bool, true, false, if◌then◌else◌, IfSome, List, [], length, nat_lt, slice_get, take, Option, None, Some}
use Rattle.std.specs.List.{list_all, list_any}
use Rattle.std.specs.Option.{option_map_or}
use Rattle.payload_graph.specs.Net.{Net, edges_from, full, opens, window}
use Rattle.payload_graph.specs.Soundness.{door_at}
use Rattle.payload_graph.specs.declared.door.Door.{Door}
use Rattle.payload_graph.specs.declared.edge.Edge.{Edge}
use Rattle.payload_graph.specs.declared.edge.Kind.{Kind}
use Rattle.payload_graph.specs.declared.edge.Kind.TheVariants.{Full, Differ}
use Rattle.price_cert.specs.declared.best.Nearest.{Nearest}
use Rattle.price_cert.specs.Laws.{IsSmall}
use Rattle.price_cert.specs.Rows.{price_at, price_of, row_at}
use Rattle.price_cert.specs.Rules.{AreCertified, adds_up, is_at_most, is_next, yields}
use Rattle.price_cert.specs.declared.row.Row.{Row}
use Rattle.price_cert.specs.declared.row.Row.TheVariants.{Nothing, End, Price}

-- a differential is better than a full package
abbrev pub is_kind_better : Kind → Kind → Bool
is_kind_better Full Full = false
is_kind_better Full Differ = true
is_kind_better Differ other = false

-- a payload leads higher than the one of a kind to a release, or there too and is better by its kind
abbrev pub leads_higher : Edge → Kind → ℕ → Bool
leads_higher edge kind to = nat_lt to edge.to || (to == edge.to && is_kind_better kind edge.kind)

-- a payload of a sum is better than the one that a row names; nothing is better than the end
abbrev pub is_better : Row → ℕ → Edge → Bool
is_better Nothing sum edge = true
is_better End sum edge = false
is_better (Price price kind to) sum edge = nat_lt sum price || (sum == price && leads_higher edge kind to)

-- the row of the better one of a row's payload and another one, which leads to a release of that price
abbrev pub improved_by : Option ℕ → Row → Edge → Row
improved_by None row edge = row
improved_by (Some rest) row edge =
    if is_better row (edge.bytes + rest) edge then Price (edge.bytes + rest) edge.kind edge.to else row

-- the same by a table
abbrev pub improved : List Row → Row → Edge → Row
improved rows row edge = improved_by (price_at rows edge.to) row edge

-- the same of the full package through a door, if the door opens from the release
abbrev pub taken : List Row → Row → ℕ → Door → Row
taken rows row from door = if opens from door then improved rows row (full from door) else row

-- a payload to a release of that price doesn't give the row's sum, or yields to the one that the row
-- names
abbrev pub is_larger_or_yields : Option ℕ → Row → Edge → Bool
is_larger_or_yields rest Nothing edge = true
is_larger_or_yields rest End edge = true
is_larger_or_yields rest (Price price kind to) edge = not (adds_up rest price edge.bytes) || yields edge kind to

-- a payload to a release of that price isn't better than the one that a row names
abbrev pub is_no_better_by : Option ℕ → Row → Edge → Bool
is_no_better_by rest row edge = is_at_most rest (price_of row) edge.bytes && is_larger_or_yields rest row edge

-- the same by a table
abbrev pub is_no_better : List Row → Row → Edge → Bool
is_no_better rows row edge = is_no_better_by (price_at rows edge.to) row edge

-- a row names a payload of the list, with its sum, or has nothing
abbrev pub names_one : List Row → List Edge → Row → Bool
names_one rows edges Nothing = true
names_one rows edges End = false
names_one rows edges (Price price kind to) = list_any (is_next rows price kind to) edges

-- rule: Best payload
-- a row names the best payload of a list, or has nothing since none leads to a priced release
pub record IsBest (rows : List Row) (edges : List Edge) (row : Row) : Type 0 where
  pub behind : list_all (is_no_better rows row) edges ≡ true
  pub names : names_one rows edges row ≡ true

-- the row that names the nearest destination; its sum is the largest number of 64 bits if there is none
abbrev pub nearest_row : Nearest → Row
nearest_row nearest = if nearest.sum == (2 ^ 64 - 1) then Nothing else Price nearest.sum Full nearest.to

-- a destination of a sum is nearer than the nearest one so far; of equal sums the higher one is
abbrev pub is_nearer : Nearest → ℕ → ℕ → Bool
is_nearer nearest sum to = nat_lt sum nearest.sum || (sum == nearest.sum && nat_lt nearest.to to)

-- the door that a row leads through opens from a release; a row without a payload needs none
abbrev pub is_still_open : List Door → ℕ → Row → Bool
is_still_open doors from Nothing = true
is_still_open doors from End = true
is_still_open doors from (Price price kind to) = option_map_or (opens from) (slice_get doors to) false

-- the doors that a release above the target leads down through
abbrev pub lower : Net → ℕ → List Door
lower net from = if net.rollback then take from net.doors else []

-- a window below the target without its first door
abbrev pub beyond : Net → ℕ → List Door
beyond net from = if (door_at net (from + 1)).stone then [] else window net (from + 1)

-- a row has no price, or a small one
abbrev pub IsPriceSmall : Row → Type 0
IsPriceSmall row = IfSome (price_of row) IsSmall

-- the prices of a table are small, so that a package more fits into 64 bits
abbrev pub ArePricesSmall : List Row → Type 0
ArePricesSmall rows = (release : ℕ) → IsPriceSmall (row_at rows release)

-- the rows of the releases from one index on, before another, name the best payloads of their releases
abbrev pub AreBest : Net → List Row → ℕ → ℕ → Type 0
AreBest net rows low high =
    (from : ℕ) → low ≤ from → from < high → IsBest rows (edges_from net from) (row_at rows from)

-- rule: Table of best payloads
-- a table that ends at the target, and whose other rows name the best payloads of their releases
pub record IsBestTable (net : Net) (rows : List Row) : Type 0 where
  pub sized : length rows ≡ length net.doors
  pub target : row_at rows net.target ≡ End
  pub best :
      (from : ℕ) → from < length net.doors → (from ≡ net.target → ⊥) →
      IsBest rows (edges_from net from) (row_at rows from)

-- such a table is certified
abbrev pub BestTablesAreCertified : Type 0
BestTablesAreCertified = (net : Net) (rows : List Row) → IsBestTable net rows → AreCertified net rows

-- each list of payloads has a row that names its best one, or has nothing
abbrev pub ListsHaveBest : Type 0
ListsHaveBest = (rows : List Row) (edges : List Edge) → (row : Row) × IsBest rows edges row
