-- What an open finds; this project's profile.
use Rattle.std.specs.Prelude.{◌≡◌, ◌⊎◌, ◌+◌, ◌-◌, ◌++◌, ◌<◌, ◌≤◌, ◌^◌, All, ℕ, List, [], Some, length, slice_get}
use Rattle.kept_records.specs.Checksums.{checksum_from, checksums_from, no_checksum}
use Rattle.kept_records.specs.declared.record.Record.{Record}
use Rattle.sqlite.specs.Files.{Finds, file_state, over_files}
use Rattle.sqlite.specs.Held.{Held, state}
use Rattle.sqlite.specs.Order.{Row}
use Rattle.sqlite.specs.Recovery.{Image}
use Rattle.sqlite.specs.Start.{FindsIn}
use Rattle.sqlite.specs.declared.FileStore.{FileStore}
use Rattle.sqlite_disk.specs.declared.Disk.{Ghosts}
use Rattle.sqlite_disk.specs.declared.Files.{Files}
use Rattle.sqlite_trees.specs.declared.store.Store.{Ghosts as Stored}
use Rattle.history.specs.Holdings.{HasChecksum, Holds, Keeps}
use Rattle.history.specs.Logs.{Log}
use Rattle.history.specs.Tables.{empty_schema, entries_from}

-- rows that were listed are checksums of some of these records, and then the records, from this number on
pub record IsRead (rows : List Row) (first : ℕ) (kept : List Record) (sum : List ℕ) : Type 0 where
  pub numbered : (1 ≤ first) × (first ≤ 2 ^ 53)
  pub most : length kept ≤ 65536
  pub sums : List Row
  pub checked : All (HasChecksum first (checksums_from first no_checksum kept)) sums
  pub is : rows ≡ sums ++ entries_from first kept
  pub last : sum ≡ checksum_from first no_checksum kept

-- the records are those of the last commit, or there was no table and there are none
abbrev pub FindsOrMakes : {S : Type 0} → Stored S → Held S → Log S → Type 0
FindsOrMakes g was now =
    ((state g now.conn).committed ≡ (state g was).committed)
    ⊎ (((state g was).now.schema ≡ empty_schema) × (now.kept ≡ []))

-- rule: Opened history
-- the records are those of the database that the files held, or there was no table in it and there are none
pub record IsOpenedAt {D : Type 0} {g : Ghosts D} (start : Image) (now : Log (FileStore D g)) : Type 0 where
  pub was : Held (FileStore D g)
  pub found : FindsIn start (file_state was)
  pub same : FindsOrMakes over_files was now
  pub keeps : Keeps (file_state now.conn) now.first now.kept

-- rule: Log without its file
-- a database file of so many bytes is missing or empty, so that an open drops its log, and a log of so many may have
-- records: it has its header of 32 bytes, and one of 24 before what it has of a page
abbrev pub IsParted : ℕ → ℕ → Type 0
IsParted file log = (file ≡ 0) × (32 + 24 ≤ log)

-- records with these checksums, numbered from this number on, go on from so many others, numbered from a first one on, of
-- which the last one has this checksum: the record of the same number has it too, or all were replaced since
abbrev pub GoesOnFrom : ℕ → ℕ → List ℕ → ℕ → List (List ℕ) → Type 0
GoesOnFrom first count sum number sums =
    (count ≡ 0) ⊎ (first < number) ⊎ ((first ≡ number) × (slice_get sums (count - 1) ≡ Some sum))

-- rule: Log older than its file
-- records that were read with a log, numbered from this number on, go on from those that the file has without it
abbrev pub GoesOn : ℕ → ℕ → List ℕ → ℕ → List Record → Type 0
GoesOn first count sum number kept = GoesOnFrom first count sum number (checksums_from number no_checksum kept)

-- rule: Closed history
-- the next open of the files finds the records that the history kept
abbrev pub IsClosed : {D : Type 0} {g : Ghosts D} → Log (FileStore D g) → Files D → Type 0
IsClosed {D} {g} log files = (again : Held (FileStore D g)) → Finds files again
    → Keeps (file_state log.conn) log.first log.kept → Holds (file_state again).committed.trees log.first log.kept
