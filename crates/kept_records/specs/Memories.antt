-- What calls make of records in memory, which follow a list of turns; this project's profile.
use Rattle.std.specs.Prelude.{◌≡◌, ◌-◌, ◌<◌, ◌≤◌, ◌⊎◌, ◌==◌, ℕ, Bool, false, IsTrue, List, [], ◌∷◌, ◌++◌, if◌then◌else◌, length, slice_get, take, Option, None, Some, Result, Ok, Err}
use Rattle.std.specs.declared.alloc.AllocError.{AllocError}
use Rattle.kept_records.specs.declared.fault.AppendFault.{AppendFault}
use Rattle.kept_records.specs.declared.fault.AppendFault.TheVariants as append
use Rattle.kept_records.specs.declared.fault.ReadFault.{ReadFault}
use Rattle.kept_records.specs.declared.fault.ReadFault.TheVariants as read
use Rattle.kept_records.specs.declared.fault.Cause.TheVariants.{Disk, Memory}
use Rattle.kept_records.specs.declared.memory.MemoryRecords.{MemoryRecords}
use Rattle.kept_records.specs.declared.record.Record.{Record}
use Rattle.kept_records.specs.declared.turn.Turn.{Turn}
use Rattle.kept_records.specs.declared.turn.Turn.TheVariants as turn
use Rattle.kept_records.specs.Keeping.{HasRoom}

-- the known records: the first ones of those that are stored
abbrev pub known_of : MemoryRecords → List Record
known_of memory = take memory.known memory.stored

-- the turn of the next append, if there is one
abbrev pub turn_of : List Turn → Option Turn
turn_of turns = slice_get turns (length turns - 1)

-- the turns after it
abbrev pub turns_after : List Turn → List Turn
turns_after turns = take (length turns - 1) turns

-- a record that was made is stored, unless memory ran out
abbrev pub IsPushed : List Record → List Record → Result Record AllocError → Result (Unit {0}) AppendFault → Type 0
IsPushed old new (Ok made) (Ok _) = new ≡ old ++ made ∷ []
IsPushed old new (Err _) (Ok _) = ⊥
IsPushed old new made (Err fault) = (fault ≡ append.Failed Memory) × (new ≡ old)

-- an append that nothing disturbs stores the record, unless there is another one, no room or no memory
abbrev pub IsStored : List Record → List Record → ℕ → ℕ → Record → Result (Unit {0}) AppendFault → Type 0
IsStored old new known limit added (Ok _) =
    (length old ≤ known) × HasRoom limit old (length added.bytes) × (new ≡ old ++ added ∷ [])
IsStored old new known limit added (Err append.Taken) = (known < length old) × (new ≡ old)
IsStored old new known limit added (Err append.Full) =
    (length old ≤ known) × (HasRoom limit old (length added.bytes) → ⊥) × (new ≡ old)
IsStored old new known limit added (Err (append.Failed cause)) = (cause ≡ Memory) × (new ≡ old)
IsStored old new known limit added (Err (append.Unknown cause)) = ⊥

-- another writer's record is stored, unless memory runs out
abbrev pub IsLost : List Record → List Record → Record → Result (Unit {0}) AppendFault → Type 0
IsLost old new other result =
    ((result ≡ Err append.Taken) × (new ≡ old ++ other ∷ [])) ⊎ ((result ≡ Err (append.Failed Memory)) × (new ≡ old))

-- what the caller hears of an append in doubt
abbrev pub in_doubt : Result (Unit {0}) AppendFault → Result (Unit {0}) AppendFault
in_doubt (Ok _) = Err (append.Unknown Disk)
in_doubt (Err fault) = Err fault

-- rule: Records in memory
-- what an append comes to at a turn, and what it makes of the stored records
abbrev pub AppendsBy : Option Turn → List Record → List Record → ℕ → ℕ → Record → Result (Unit {0}) AppendFault → Type 0
AppendsBy None old new known limit added result = IsStored old new known limit added result
AppendsBy (Some turn.Stores) old new known limit added result = IsStored old new known limit added result
AppendsBy (Some (turn.Loses other)) old new known limit added result = IsLost old new other result
AppendsBy (Some turn.StoresInDoubt) old new known limit added result =
    (heard : Result (Unit {0}) AppendFault) × IsStored old new known limit added heard × (result ≡ in_doubt heard)
AppendsBy (Some turn.DropsInDoubt) old new known limit added result = (result ≡ Err (append.Unknown Disk)) × (new ≡ old)
AppendsBy (Some turn.Fails) old new known limit added result = (result ≡ Err (append.Failed Disk)) × (new ≡ old)

-- a compaction replaces all records by one, unless others aren't known, it has too many bytes, or memory runs out
abbrev pub IsCompacted : List Record → List Record → ℕ → ℕ → Record → Result (Unit {0}) AppendFault → Type 0
IsCompacted old new known limit only (Ok _) =
    (length old ≤ known) × (length only.bytes ≤ limit) × (new ≡ only ∷ [])
IsCompacted old new known limit only (Err append.Taken) = (known < length old) × (new ≡ old)
IsCompacted old new known limit only (Err append.Full) =
    (length old ≤ known) × (limit < length only.bytes) × (new ≡ old)
IsCompacted old new known limit only (Err (append.Failed cause)) = (cause ≡ Memory) × (new ≡ old)
IsCompacted old new known limit only (Err (append.Unknown cause)) = ⊥

-- nothing but the stored records differs
pub record IsSameBut (old new : MemoryRecords) : Type 0 where
  pub first : new.first ≡ old.first
  pub known : new.known ≡ old.known
  pub limit : new.limit ≡ old.limit
  pub turns : new.turns.items ≡ old.turns.items
  pub reads : new.fails_after ≡ old.fails_after

-- whether a read fails, by how many more succeed before one does
abbrev pub fails : Option ℕ → Bool
fails None = false
fails (Some calls) = calls == 0

-- how many more succeed after it
abbrev pub after_read : Option ℕ → Option ℕ
after_read None = None
after_read (Some calls) = if calls == 0 then None else Some (calls - 1)

-- a read gives the record after the known ones, if there is one, unless it fails or memory runs out
abbrev pub Reads : MemoryRecords → Result (Option Record) ReadFault → Type 0
Reads old (Ok found) = (fails old.fails_after ≡ false) × (found ≡ slice_get old.stored old.known)
Reads old (Err (read.Failed cause)) = ((cause ≡ Disk) × IsTrue (fails old.fails_after)) ⊎ (cause ≡ Memory)
