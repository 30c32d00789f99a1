-- The records that a database holds, now, at the last commit and after a crash; this project's profile.
use Rattle.std.specs.Prelude.{◌≡◌, ◌⊎◌, ◌+◌, All, ℕ, List, Some, length, false, filter, true, if◌then◌else◌, map, not, slice_get, IsTrue}
use Rattle.std.specs.List.Sorted.{IsPermutation}
use Rattle.kept_records.specs.Checksums.{checksums_from, no_checksum}
use Rattle.kept_records.specs.declared.record.Record.{Record}
use Rattle.sqlite.specs.Order.{Row}
use Rattle.sqlite.specs.Schema.{Schema}
use Rattle.sqlite.specs.State.{HasCleanDisk, IsRolledBack, IsUnchanged, Shows, State}
use Rattle.sqlite.specs.Tree.{Trees}
use Rattle.history.specs.Tables.{checksum_row, empty_schema, entries_from, history_schema, is_checksum, shown_row}

-- the rows that are no checksums
abbrev pub entries_in : List Row → List Row
entries_in rows = filter (λ row. not (is_checksum row)) rows

-- the rows that are checksums
abbrev pub checksums_in : List Row → List Row
checksums_in rows = filter is_checksum rows

-- the row has one of these checksums, of records that are numbered from this number on
abbrev pub HasChecksum : ℕ → List (List ℕ) → Row → Type 0
HasChecksum first sums row = (at : ℕ) × (sum : List ℕ) × (slice_get sums at ≡ Some sum) × (row ≡ checksum_row (first + at) sum)

-- rule: Records of a database
-- the table's rows are these records, numbered in order from this number on, and checksums of some of them
pub record Holds (trees : Trees) (first : ℕ) (kept : List Record) : Type 0 where
  pub records : IsPermutation (entries_in (map shown_row (trees 0))) (entries_from first kept)
  pub checksums : All (HasChecksum first (checksums_from first no_checksum kept)) (checksums_in (map shown_row (trees 0)))

-- rule: Kept records
-- the last commit has these records, and so has whatever a crash leaves
pub record Keeps (s : State) (first : ℕ) (kept : List Record) : Type 0 where
  pub committed : Holds s.committed.trees first kept
  pub crash : (db : Trees) → s.may_leave db → Holds db first kept

-- what a crash leaves has the old records, or the new ones
abbrev pub LeavesEither : State → ℕ → List Record → ℕ → List Record → Type 0
LeavesEither s first old number new = (db : Trees) → s.may_leave db → Holds db first old ⊎ Holds db number new

-- an open connection to a history, with nothing that isn't committed
pub record IsHistory (s : State) (first : ℕ) (kept : List Record) : Type 0 where
  pub is_open : IsTrue s.is_open
  pub schema : s.now.schema ≡ history_schema
  pub holds : Holds s.now.trees first kept
  pub committed : s.committed ≡ s.now
  pub autocommit : s.in_transaction ≡ false

-- a connection to a database without a table
pub record IsBare (s : State) : Type 0 where
  pub schema : s.now.schema ≡ empty_schema
  pub autocommit : s.in_transaction ≡ false

-- a transaction is open, which has left these records
pub record IsInside (s : State) (first : ℕ) (kept : List Record) : Type 0 where
  pub is_open : IsTrue s.is_open
  pub schema : s.now.schema ≡ history_schema
  pub holds : Holds s.now.trees first kept
  pub within : s.in_transaction ≡ true

-- a statement left this schema, and committed what it did, unless a transaction is open
pub record Leads (old new : State) (after : Schema) : Type 0 where
  pub schema : new.now.schema ≡ after
  pub shown : Shows old new new.now (if old.in_transaction then old.committed else new.now) old.in_transaction

-- this is the number after the last record's
abbrev pub IsNext : Trees → ℕ → Type 0
IsNext trees number =
    (first : ℕ) × (kept : List Record) × Holds trees first kept × (number ≡ first + length kept)

-- a statement failed, and changed nothing or rolled its transaction back
abbrev pub IsAsBefore : State → State → Type 0
IsAsBefore old new = IsUnchanged old new ⊎ IsRolledBack old new

-- what a crash leaves is what it left before, or what a call commits
pub record CrashLeaves (old new : State) (Commits : Trees → Type 0) : Type 0 where
  pub clean : HasCleanDisk new → HasCleanDisk old
  pub crash : HasCleanDisk new → (db : Trees) → new.may_leave db → old.may_leave db ⊎ Commits db
