-- A table is found where the search for its key begins.
use Rattle.std.proofs.Common.{◌≡◌, ℕ, ◌+◌, ◌-◌, ◌<◌, ◌≤◌, List, get_or, length, map, drop, Option, None, Some, sym, ap, ◌∙◌, subst, arith}
use Rattle.std.specs.List.{All, Contains}
use Rattle.std.specs.Option.{MatchOption}
use Rattle.std.proofs.lemmas.List.{get_or-drop, get_or-map, length-drop, length-map}
use Rattle.payload_graph.specs.declared.payload.TrackKey.{TrackKey}
use Rattle.payload_graph.specs.Net.{Net}
use Rattle.price_cert.specs.Tables.{Certificate}
use Rattle.par_tables.specs.Places.{ArePlaced, HasOtherKey, HasOtherKeyAt, IsPlaced, start_of}
use Rattle.par_tables.specs.Tables.{net_of_table}

-- the place of a table with a key
placed-at :
    (firsts starts : List ℕ) (tables : List Certificate) (key : TrackKey) (place : ℕ) (d : Certificate) →
    ArePlaced firsts starts (map net_of_table tables) → place < length tables →
    (get_or tables place d).net.key ≡ key → IsPlaced firsts starts key place
placed-at firsts starts tables key place d placed within same =
    let sized = length-map tables net_of_table in
    let there = get_or-map net_of_table tables place d (net_of_table d) within in
    subst (λ k. IsPlaced firsts starts k place) (ap (λ (net : Net). net.key) there ∙ same)
    (placed place (net_of_table d) (omega arith))

-- if the search begins nowhere, there is none
pub All-nowhere :
    (firsts starts : List ℕ) (tables : List Certificate) (key : TrackKey) →
    ArePlaced firsts starts (map net_of_table tables) → start_of firsts starts key ≡ None →
    All (HasOtherKey key) tables
All-nowhere firsts starts tables key placed nowhere place d within same =
    let is = placed-at firsts starts tables key place d placed within same in
    let found = is.found in
    cc

-- if it finds none, there is none
pub All-other :
    (firsts starts : List ℕ) (tables : List Certificate) (key : TrackKey) (start : ℕ) →
    ArePlaced firsts starts (map net_of_table tables) → start_of firsts starts key ≡ Some start →
    ((place : ℕ) → start ≤ place → place < start + 4 → HasOtherKeyAt key tables place) →
    All (HasOtherKey key) tables
All-other firsts starts tables key start placed begins others place d within same =
    let is = placed-at firsts starts tables key place d placed within same in
    let found = is.found in
    let begun : is.start ≡ start = cc in
    let low = is.low in
    let high = is.high in
    others place (omega arith) (omega arith) d within same

-- the tables from an index on are tables of the list
pub HasOtherKeyAt-drop :
    (tables : List Certificate) (key : TrackKey) (start place : ℕ) → start ≤ place →
    HasOtherKeyAt key (drop start tables) (place - start) → HasOtherKeyAt key tables place
HasOtherKeyAt-drop tables key start place low other d within same =
    let sized = length-drop start tables in
    let whole : start + (place - start) ≡ place = omega arith in
    other d (omega arith) (ap (λ (t : Certificate). t.net.key) (get_or-drop start tables (place - start) d ∙ ap (λ n. get_or tables n d) whole) ∙ same)

pub Contains-drop : (tables : List Certificate) (start : ℕ) (table : Certificate) → Contains (drop start tables) table → Contains tables table
Contains-drop tables start table inside =
    let sized = length-drop start tables in
    let below = inside.1 in
    (start + inside.0, omega arith, sym (get_or-drop start tables inside.0 table) ∙ inside.2)

-- what is found in the tables from an index on is found in the list
pub MatchOption-drop :
    {R : Type 0} (now : R → Certificate) (tables : List Certificate) (key : TrackKey) (start : ℕ) (result : Option R) →
    MatchOption result
    ((place : ℕ) → place < 4 → HasOtherKeyAt key (drop start tables) place)
    (λ found. Contains (drop start tables) (now found) × ((now found).net.key ≡ key)) →
    MatchOption result
    ((place : ℕ) → start ≤ place → place < start + 4 → HasOtherKeyAt key tables place)
    (λ found. Contains tables (now found) × ((now found).net.key ≡ key))
MatchOption-drop now tables key start None others = λ place low high.
    HasOtherKeyAt-drop tables key start place low (others (place - start) (omega arith))
MatchOption-drop now tables key start (Some found) is = (Contains-drop tables start (now found) is.0, is.1)

-- and what isn't found there isn't in the list
pub MatchOption-all :
    {R : Type 0} (now : R → Certificate) (firsts starts : List ℕ) (tables : List Certificate) (key : TrackKey) (start : ℕ) (result : Option R) →
    ArePlaced firsts starts (map net_of_table tables) → start_of firsts starts key ≡ Some start →
    MatchOption result
    ((place : ℕ) → start ≤ place → place < start + 4 → HasOtherKeyAt key tables place)
    (λ found. Contains tables (now found) × ((now found).net.key ≡ key)) →
    MatchOption result (All (HasOtherKey key) tables)
    (λ found. Contains tables (now found) × ((now found).net.key ≡ key))
MatchOption-all now firsts starts tables key start None placed begins others = All-other firsts starts tables key start placed begins others
MatchOption-all now firsts starts tables key start (Some found) placed begins is = is
