-- What the program prints of what is wrong with a history; this project's profile.
use Rattle.std.specs.Prelude.{ℕ, List, ◌++◌, codes, decimal}
use Rattle.kept_records.specs.Words.{words_in}
use Rattle.kept_records.specs.declared.fault.AppendFault.{AppendFault}
use Rattle.kept_records.specs.declared.fault.AppendFault.TheVariants as append
use Rattle.kept_records.specs.declared.fault.Cause.{Cause}
use Rattle.kept_records.specs.declared.fault.Cause.TheVariants as cause
use Rattle.kept_records.specs.declared.fault.OpenFault.TheVariants as open_fault
use Rattle.kept_records.specs.declared.fault.Unreached.{Unreached}
use Rattle.kept_records.specs.declared.fault.Unreached.TheVariants as unreached
use Rattle.failures.specs.RecordFaults.{fault_string as record_fault_text}
use Rattle.failures.specs.declared.history_fault.HistoryFault.{HistoryFault}
use Rattle.failures.specs.declared.history_fault.HistoryFault.TheVariants as fault

-- the words for why no server gave a reply that counts
abbrev pub unreached_string : Unreached → List ℕ
unreached_string unreached.NoReply = codes "none of its servers replies"
unreached_string unreached.OtherCluster = codes "its servers are of another cluster than before"
unreached_string unreached.OlderState = codes "its servers have an older state than before"

-- the words for what made a call fail
abbrev pub cause_string : Cause → List ℕ
cause_string cause.Memory = codes "out of memory"
cause_string cause.DiskFull = codes "the disk is full"
cause_string cause.Disk = codes "the disk failed"
cause_string cause.Damaged = codes "damaged"
cause_string cause.TooLarge = codes "the record is too large"
cause_string cause.Closed = codes "closed by an earlier failure"
cause_string (cause.Unreachable why) = unreached_string why
cause_string cause.Unreadable = codes "a reply of its servers cannot be read"
cause_string (cause.Rejected words) = codes "its servers rejected it: " ++ words_in words
cause_string (cause.Missing number) = codes "record " ++ decimal number ++ codes ": missing"
cause_string (cause.Changed number) = codes "record " ++ decimal number ++ codes ": damaged"
cause_string cause.Shared = codes "shared by servers, so it isn't compacted"

-- the words for why a record can't be kept
abbrev pub append_string : AppendFault → List ℕ
append_string append.Taken = codes "another program has added a record"
append_string append.Full = codes "full"
append_string (append.Failed reason) = cause_string reason
append_string (append.Unknown reason) = cause_string reason

-- the reason that is printed after the history's path
abbrev pub history_fault_string : HistoryFault → List ℕ
history_fault_string (fault.Open open_fault.Foreign) = codes "not a history"
history_fault_string (fault.Open open_fault.Busy) = codes "in use by another program"
history_fault_string (fault.Open open_fault.Unopened) = codes "cannot be opened"
history_fault_string (fault.Open open_fault.Parted) =
    codes "has a log, but its file is missing or empty: put the file back, or move the log away"
history_fault_string (fault.Open open_fault.Bare) =
    codes "has no table, as without its log: put the log back, or remove the file to begin anew"
history_fault_string (fault.Open open_fault.Astray) =
    codes "has a log that is older than it, or another file's: move the log away"
history_fault_string (fault.Open (open_fault.Damaged number)) = codes "record " ++ decimal number ++ codes ": damaged or missing"
history_fault_string (fault.Open (open_fault.Failed reason)) = cause_string reason
history_fault_string (fault.Append reason) = append_string reason
history_fault_string (fault.Record number reason) = codes "record " ++ decimal number ++ codes ": " ++ record_fault_text reason
history_fault_string fault.OtherProfile = codes "begins with another profile: leave --profile out, or begin another file"
history_fault_string fault.Empty = codes "has no records: name a profile"
history_fault_string (fault.NoEdition number) = codes "no edition " ++ decimal number
