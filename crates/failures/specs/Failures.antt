-- What the program prints of a failure, after `omaha: `; this project's profile.
use Rattle.std.specs.Prelude.{ℕ, ◌==◌, Bool, true, false, if◌then◌else◌, List, ◌++◌, codes, decimal}
use Rattle.catalogue.specs.FaultStrings.{refused_string}
use Rattle.omaha_json.specs.Faults.{fault_string}
use Rattle.package_files.specs.Descriptions.{error_string as reason_text}
use Rattle.package_files.specs.Lacking.{lacking_string}
use Rattle.certificates.specs.FaultStrings.{fault_string as certificate_fault_text}
use Rattle.profile_toml.specs.FaultStrings.{fault_string as profile_fault_text}
use Rattle.streams.specs.Strings.{shown_string}
use Rattle.update_client.specs.Faults.{fault_string as walk_fault_text}
use Rattle.failures.specs.HistoryFaults.{history_fault_string}
use Rattle.failures.specs.declared.failure.Failure.{Failure}
use Rattle.failures.specs.declared.failure.Failure.TheVariants as failure

-- what a status says of whoever sent it, and no line of an operator's listener
abbrev pub status_words : ℕ → List ℕ
status_words status =
    if status == 403 then codes "the request has a browser's field: is a proxy before the listener?"
    else if status == 500 then codes "the server has no memory, or can't keep a record: look at its log"
    else if status == 502 then codes "a proxy doesn't reach the server"
    else if status == 503 then codes "a proxy doesn't reach the server"
    else if status == 504 then codes "a proxy doesn't reach the server"
    else codes "not an operator's address of an omaha server"

-- rule: Printed failure
-- `file` and the path as it is shown, perhaps with the reason; the code and name of a fault, with its place; or a
-- word
abbrev pub failure_string : Failure → List ℕ
failure_string (failure.File path) = codes "file " ++ shown_string path
failure_string (failure.Undescribed path reason) =
    codes "file " ++ shown_string path ++ codes ": " ++ reason_text reason
failure_string (failure.Packages count) = codes "packages " ++ decimal count
failure_string (failure.Package name what) = lacking_string name what
failure_string (failure.Profile fault) = profile_fault_text fault
failure_string (failure.Edit refused) = refused_string refused
failure_string (failure.Script fault) = codes "script " ++ profile_fault_text fault
failure_string (failure.Stale number) = codes "stale " ++ decimal number
failure_string failure.HistoryFull = codes "history full"
failure_string (failure.Stuck count) = codes "stuck " ++ decimal count
failure_string failure.Read = codes "read"
failure_string failure.TooLong = codes "read"
failure_string (failure.Request fault) = fault_string fault
failure_string (failure.Certificate fault) = certificate_fault_text fault
failure_string (failure.Code code) = codes "no code " ++ shown_string code
failure_string (failure.Net address) = codes "net " ++ shown_string address
failure_string (failure.History path fault) =
    codes "history " ++ shown_string path ++ codes ": " ++ history_fault_string fault
failure_string (failure.Stopping address) = codes "stopping " ++ shown_string address
failure_string failure.NoPlace = codes "no place"
failure_string failure.Closed = codes "closed"
failure_string failure.Thread = codes "thread"
failure_string failure.RoomLeft = codes "room left"
failure_string failure.Unpublished = codes "unpublished"
failure_string failure.EndedEarly = codes "ended early"
failure_string (failure.Walk fault) = walk_fault_text fault
failure_string (failure.Declined reply) = codes "declined"
failure_string (failure.Unexpected address status) =
    codes "status " ++ (decimal status ++ (codes " at " ++ (shown_string address ++ (codes ": " ++ status_words status))))
failure_string failure.Memory = codes "memory"
failure_string failure.Write = codes "write"

-- what is printed of a failure that prints as a word
abbrev pub word_of : Failure → List ℕ
word_of failure.HistoryFull = codes "history full"
word_of failure.Read = codes "read"
word_of failure.TooLong = codes "read"
word_of failure.NoPlace = codes "no place"
word_of failure.Closed = codes "closed"
word_of failure.Thread = codes "thread"
word_of failure.RoomLeft = codes "room left"
word_of failure.Unpublished = codes "unpublished"
word_of failure.EndedEarly = codes "ended early"
word_of (failure.Declined reply) = codes "declined"
word_of failure.Memory = codes "memory"
word_of failure.Write = codes "write"
word_of other = codes ""

-- the operator's listener declined, and said why on the standard output
abbrev pub is_declined : Failure → Bool
is_declined (failure.Declined reply) = true
is_declined other = false
