-- What contracts see of a history; this project's profile.
use Rattle.std.specs.Prelude.{◌≡◌, ◌⊎◌, ◌≤◌, ◌^◌, ℕ, Bool, IsTrue, List, false, length, refl}
use Rattle.std.specs.Coded.{Coded, code_by, coded×, coded_bool, coded_list, coded_ℕ}
use Rattle.kept_records.specs.Checksums.{checksum_from, no_checksum}
use Rattle.kept_records.specs.Keeping.{bytes_in}
use Rattle.kept_records.specs.contracts.record.Record as kept_record
use Rattle.kept_records.specs.declared.fault.AppendFault.{AppendFault}
use Rattle.kept_records.specs.declared.fault.AppendFault.TheVariants as append
use Rattle.kept_records.specs.declared.fault.Cause.TheVariants.{Closed}
use Rattle.kept_records.specs.declared.record.Record.{Record}
use Rattle.sqlite_trees.specs.declared.store.Store.{Ghosts}
use Rattle.sqlite.specs.Held.{Held, held_code, state}
use Rattle.sqlite.specs.State.{HasCleanDisk}
use Rattle.history.specs.Holdings.{IsHistory, Keeps}

-- a connection, the records that it is known to hold, the number of the first one, how many bytes all may have, and
-- whether calls still reach the disk
pub record Log (S : Type 0) : Type 0 where
  pub conn : Held S
  pub first : ℕ
  pub kept : List Record
  pub limit : ℕ
  pub is_live : Bool

abbrev pub log_code : {S : Type 0} → Coded S → Coded (Log S)
log_code {S} store =
    code_by (Held S × (ℕ × (List Record × (ℕ × Bool))))
    (coded× (held_code store) (coded× coded_ℕ (coded× (coded_list kept_record.the_row.coded) (coded× coded_ℕ coded_bool))))
    (λ log. (log.conn, (log.first, (log.kept, (log.limit, log.is_live)))))
    (λ p. record { conn = p.0; first = p.1.0; kept = p.1.1.0; limit = p.1.1.1.0; is_live = p.1.1.1.1 })
    (λ _. refl)

module _ {S : Type 0} (g : Ghosts S) where
  -- the disk has returned what was written to it, and nothing else has changed the files
  abbrev pub IsClean : Log S → Type 0
  IsClean log = HasCleanDisk (state g log.conn)

  -- the last commit, and whatever a crash leaves, has the known records
  abbrev pub KeepsKnown : Log S → Type 0
  KeepsKnown log = Keeps (state g log.conn) log.first log.kept

-- a history that was just opened knows these records, and its calls reach the disk
pub record IsKnown {S : Type 0} (log : Log S) (records : List Record) (most : ℕ) : Type 0 where
  pub kept : log.kept ≡ records
  pub limit : log.limit ≡ most
  pub live : IsTrue log.is_live

-- what is so of the fields of a history
pub record IsLog {S : Type 0} (g : Ghosts S) (conn : Held S) (first len size : ℕ) (sum : List ℕ) (kept : List Record) (is_live : Bool) : Type 0 where
  pub numbered : (1 ≤ first) × (first ≤ 2 ^ 53)
  pub summed : sum ≡ checksum_from first no_checksum kept
  pub counted : len ≡ length kept
  pub bounded : len ≤ 65536
  pub sized : size ≡ bytes_in kept
  pub holds : IsTrue is_live → HasCleanDisk (state g conn) → IsHistory (state g conn) first kept

-- rule: Failed append
-- a failed append says that the record isn't stored, unless the history is closed: then it may be
abbrev pub Reports : Bool → AppendFault → Type 0
Reports is_live append.Taken = ⊥
Reports is_live append.Full = IsTrue is_live
Reports is_live (append.Failed cause) = IsTrue is_live ⊎ (cause ≡ Closed)
Reports is_live (append.Unknown cause) = is_live ≡ false

-- rule: Failed compaction
-- a failed compaction says that all records are as before, if the history was closed or they don't fit; after any other
-- failure they may be replaced, and the history is closed
abbrev pub ReportsCompaction : Bool → Bool → AppendFault → Type 0
ReportsCompaction was_live is_live append.Taken = ⊥
ReportsCompaction was_live is_live append.Full = IsTrue is_live
ReportsCompaction was_live is_live (append.Failed cause) = (was_live ≡ false) × (cause ≡ Closed)
ReportsCompaction was_live is_live (append.Unknown cause) = is_live ≡ false
