-- A table of a TOML document, and where it is; this project's profile.
use Rattle.std.specs.Prelude.{ℕ, List, [], ◌++◌, codes}
use Rattle.toml.specs.Data.{Items, Members}
use Rattle.profile_toml.specs.Paths.{indexed}

-- the table's keys with their values, and what comes before its keys in their paths
pub record PlacedTable : Type 0 where
  pub place : List ℕ
  pub members : Members

-- a list's values, and its path
pub record PlacedList : Type 0 where
  pub path : List ℕ
  pub items : Items

abbrev pub table_at : List ℕ → Members → PlacedTable
table_at place members = record { place = place; members = members }

abbrev pub list_at : List ℕ → Items → PlacedList
list_at path items = record { path = path; items = items }

-- the table of a whole document
abbrev pub document : Members → PlacedTable
document members = table_at [] members

-- the table that is an element of the list at a path
abbrev pub element_table : List ℕ → ℕ → Members → PlacedTable
element_table list index members = table_at (indexed list index ++ codes ".") members
