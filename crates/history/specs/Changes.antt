-- What a call that changes the records makes of them; this project's profile.
use Rattle.std.specs.Prelude.{◌≡◌, ◌<◌, ◌≤◌, ◌^◌, ℕ, Bool, List, Result, ⊤}
use Rattle.kept_records.specs.Keeping.{Appends, Compacts, HasRoom, Numbers, record_of}
use Rattle.kept_records.specs.declared.fault.AppendFault.{AppendFault}
use Rattle.kept_records.specs.declared.record.Kind.TheVariants.{Profile}
use Rattle.kept_records.specs.declared.record.Record.{Record}
use Rattle.history.specs.Logs.{Reports, ReportsCompaction}
use Rattle.history.specs.declared.appending.Change.{Change}
use Rattle.history.specs.declared.appending.Change.TheVariants.{Append, Compact}

-- records that are replaced get a number from 1 to 2^53
abbrev pub IsNumbered : Change → Type 0
IsNumbered (Append _) = ⊤
IsNumbered (Compact number) = (1 ≤ number) × (number ≤ 2 ^ 53)

-- the number of the first record and the records, before a change with these bytes and after it
abbrev pub Makes : Change → List ℕ → Result (Unit {0}) AppendFault → ℕ → List Record → ℕ → List Record → Type 0
Makes (Append kind) bytes result first kept first' kept' = Appends (record_of kind bytes) result kept kept' × (first' ≡ first)
Makes (Compact number) bytes result first kept first' kept' =
    Compacts (record_of Profile bytes) result kept kept' × Numbers number result first first'

-- there is no room for a change with so many bytes
abbrev pub HasNoRoom : Change → ℕ → List Record → ℕ → Type 0
HasNoRoom (Append _) limit kept bytes = HasRoom limit kept bytes → ⊥
HasNoRoom (Compact _) limit kept bytes = limit < bytes

-- what a failed change says, by whether calls reached the disk before it and after it
abbrev pub ReportsChange : Change → Bool → Bool → AppendFault → Type 0
ReportsChange (Append _) was_live is_live fault = Reports is_live fault
ReportsChange (Compact _) was_live is_live fault = ReportsCompaction was_live is_live fault
