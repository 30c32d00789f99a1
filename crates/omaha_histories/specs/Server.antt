-- The records of a server that may have a history; this project's profile.
use Rattle.std.specs.Prelude.{ℕ, Bool, false, List}
use Rattle.kept_records.specs.Unkept.{noted}
use Rattle.kept_records.specs.declared.record.Record.{Record}
use Rattle.omaha_histories.specs.declared.server_records.ServerRecords.{ServerRecords}
use Rattle.omaha_histories.specs.declared.server_records.ServerRecords.TheVariants.{Kept, Unkept}

-- the known records: those of the history, or those that were appended without one
abbrev pub known_in : {K : Type 0} → (K → List Record) → ServerRecords K → List Record
known_in kept_of (Kept records) = kept_of records
known_in kept_of (Unkept records) = noted records.notes

-- the number of the first one
abbrev pub first_in : {K : Type 0} → (K → ℕ) → ServerRecords K → ℕ
first_in first_of (Kept records) = first_of records
first_in first_of (Unkept records) = records.first

-- the last known one was read
abbrev pub was_read_in : {K : Type 0} → (K → Type 0) → ServerRecords K → Type 0
was_read_in was_read (Kept records) = was_read records
was_read_in was_read (Unkept records) = ⊥

-- whether a restart finds them
abbrev pub lasts_in : {K : Type 0} → (K → Bool) → ServerRecords K → Bool
lasts_in lasts_of (Kept records) = lasts_of records
lasts_in lasts_of (Unkept records) = false
