-- Records, and what a call makes of those that a handle knows; this project's profile.
use Rattle.std.specs.Prelude.{◌≡◌, ◌+◌, ◌-◌, ◌<◌, ◌≤◌, ◌==◌, ℕ, Bool, true, false, List, [], ◌∷◌, ◌++◌, if◌then◌else◌, length, sum_by, take, Option, None, Some, Result, Ok, Err}
use Rattle.kept_records.specs.declared.fault.AppendFault.{AppendFault}
use Rattle.kept_records.specs.declared.fault.ReadFault.{ReadFault}
use Rattle.kept_records.specs.declared.record.Kind.{Kind}
use Rattle.kept_records.specs.declared.record.Kind.TheVariants.{Profile, Script, Raise}
use Rattle.kept_records.specs.declared.record.Record.{Record}

-- the number by which a kind is stored
abbrev pub number_of : Kind → ℕ
number_of Profile = 1
number_of Script = 2
number_of Raise = 3

-- rule: Kinds of records
-- the kind that is stored by a number
abbrev pub kind_of : ℕ → Option Kind
kind_of number =
    if number == 1 then Some Profile else if number == 2 then Some Script else if number == 3 then Some Raise else None

-- a record of a kind and bytes
abbrev pub record_of : Kind → List ℕ → Record
record_of kind bytes = record { kind = kind; bytes = bytes }

-- how many bytes the records have together
abbrev pub bytes_in : List Record → ℕ
bytes_in records = sum_by (λ (it : Record). length it.bytes) records

-- rule: Limit of all records
-- a record of so many bytes may be added: there are at most 65536 records, and they have at most so many bytes
abbrev pub HasRoom : ℕ → List Record → ℕ → Type 0
HasRoom limit records added = (length records < 65536) × (bytes_in records + added ≤ limit)

-- rule: Appended record
-- an append that succeeds makes the record the last known one, and one that fails leaves the known ones as before
abbrev pub Appends : Record → Result (Unit {0}) AppendFault → List Record → List Record → Type 0
Appends appended (Ok _) old new = new ≡ old ++ appended ∷ []
Appends appended (Err fault) old new = new ≡ old

-- rule: Next record
-- a read that gives a record makes it the last known one, and any other leaves the known ones as before
abbrev pub Learns : Result (Option Record) ReadFault → List Record → List Record → Type 0
Learns (Ok (Some next)) old new = new ≡ old ++ next ∷ []
Learns (Ok None) old new = new ≡ old
Learns (Err fault) old new = new ≡ old

-- the last known record is known no more, or nothing changed
abbrev pub Forgets : Bool → List Record → List Record → Type 0
Forgets true old new = new ≡ take (length old - 1) old
Forgets false old new = new ≡ old

-- rule: Compaction
-- all records are replaced by one, or are as before
abbrev pub Compacts : Record → Result (Unit {0}) AppendFault → List Record → List Record → Type 0
Compacts only (Ok _) old new = new ≡ only ∷ []
Compacts only (Err fault) old new = new ≡ old

-- the first record has the new number, or the one before
abbrev pub Numbers : ℕ → Result (Unit {0}) AppendFault → ℕ → ℕ → Type 0
Numbers number (Ok _) old new = new ≡ number
Numbers number (Err fault) old new = new ≡ old
