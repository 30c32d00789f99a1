-- Which records an open of a history in etcd finds; this project's profile.
use Rattle.std.specs.Prelude.{◌≡◌, ◌⊎◌, ◌+◌, ℕ, Bool, List, ◌++◌, length, Option, Err, None}
use Rattle.serde_json.specs.Data.{Data}
use Rattle.kept_records.specs.declared.fault.OpenFault.{OpenFault}
use Rattle.kept_records.specs.declared.fault.OpenFault.TheVariants as fault
use Rattle.kept_records.specs.declared.fault.ReadFault.{ReadFault}
use Rattle.kept_records.specs.declared.fault.ReadFault.TheVariants as read
use Rattle.kept_records.specs.declared.record.Record.{Record}
use Rattle.etcd_records.specs.declared.exchange.Exchange.{Exchange}
use Rattle.etcd_records.specs.Appending.{NextBy}
use Rattle.etcd_records.specs.Asking.{IsReplied}
use Rattle.etcd_records.specs.declared.headers.Header.{Header}
use Rattle.etcd_records.specs.Keys.{encoded_key}
use Rattle.etcd_records.specs.Replies.{found_in}
use Rattle.etcd_records.specs.Requests.{range_path, range_request}

-- a read of this number found no record, in a reply that counts
abbrev pub FindsNone : ℕ → List ℕ → ℕ → List Exchange → Type 0
FindsNone most prefix number done = (seen : Option Header) × (reply : Data) × (is_doubtful : Bool)
    × IsReplied most seen range_path (range_request (encoded_key prefix number)) done reply is_doubtful
    × (found_in reply ≡ None)

-- rule: Opened history in etcd
-- these are all records: the last exchanges found none after them, or they are the most that a history has
abbrev pub AreAll : ℕ → List Exchange → List ℕ → List Record → Type 0
AreAll most exchanges prefix kept =
    (length kept ≡ 65536)
    ⊎ ((before done : List Exchange) × (exchanges ≡ before ++ done) × FindsNone most prefix (length kept + 1) done)

-- what came later is added after what came before
abbrev pub GoesOn : List Exchange → List Exchange → Type 0
GoesOn before later = (done : List Exchange) × (later ≡ before ++ done)

-- what an open reports if a read fails so
abbrev pub open_fault_of : ReadFault → OpenFault
open_fault_of (read.Failed cause) = fault.Failed cause

-- an open fails as the read of the record after some known ones does
abbrev pub OpenFails : ℕ → List ℕ → OpenFault → Type 0
OpenFails most prefix why = (read_fault : ReadFault) × (why ≡ open_fault_of read_fault)
    × (seen after : Option Header) × (kept : List Record) × (done : List Exchange)
    × NextBy most seen after prefix kept done (Err read_fault)
