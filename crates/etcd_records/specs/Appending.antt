-- What an append to etcd and a read come to, by what is heard; this project's profile.
use Rattle.std.specs.Prelude.{◌≡◌, ◌⊎◌, ◌+◌, ℕ, ◌&&◌, Bool, List, [], if◌then◌else◌, length, Option, None, Some, Result, Ok, Err, ⊤}
use Rattle.std.specs.Str.{bytes_eq}
use Rattle.base64.specs.Engines.{standard}
use Rattle.base64.specs.GeneralPurpose.{decode_of}
use Rattle.kept_records.specs.Keeping.{HasRoom}
use Rattle.kept_records.specs.declared.fault.AppendFault.{AppendFault}
use Rattle.kept_records.specs.declared.fault.AppendFault.TheVariants as append
use Rattle.kept_records.specs.declared.fault.Cause.TheVariants as cause
use Rattle.kept_records.specs.declared.fault.ReadFault.{ReadFault}
use Rattle.kept_records.specs.declared.fault.ReadFault.TheVariants as read
use Rattle.kept_records.specs.declared.record.Record.{Record}
use Rattle.etcd_records.specs.declared.exchange.Exchange.{Exchange}
use Rattle.etcd_records.specs.Asking.{Heard, replied, unreplied, no_memory, IsHeard, seen_by}
use Rattle.etcd_records.specs.declared.headers.Header.{Header}
use Rattle.etcd_records.specs.Keys.{encoded_key, value_of, encoded_value}
use Rattle.etcd_records.specs.Replies.{found_in, held_in, is_created}
use Rattle.etcd_records.specs.Requests.{range_path, range_request, txn_path, txn_request}

-- what is reported if another value has the number, perhaps the own one by an attempt before
abbrev pub held_result : List ℕ → Bool → Option (List ℕ) → Result (Unit {0}) AppendFault
held_result value in_doubt None = Err (append.Unknown cause.Unreadable)
held_result value in_doubt (Some held) = if in_doubt && bytes_eq held value then Ok tt else Err append.Taken

-- rule: Append to etcd
-- what is reported of an append by what is heard
abbrev pub append_result : List ℕ → Heard → Result (Unit {0}) AppendFault
append_result value (replied reply in_doubt) =
    if is_created reply then Ok tt else held_result value in_doubt (held_in reply)
append_result value (unreplied cause in_doubt) =
    if in_doubt then Err (append.Unknown cause) else Err (append.Failed cause)
append_result value no_memory = Err (append.Unknown cause.Memory)

-- an append posts the transaction of its number and record until it hears of it
pub record IsPosted (most : ℕ) (seen after : Option Header) (prefix : List ℕ) (number : ℕ) (added : Record)
    (done : List Exchange) (result : Result (Unit {0}) AppendFault) : Type 0 where
  pub heard : Heard
  pub seen_is : after ≡ seen_by seen heard
  pub is_heard : IsHeard most seen txn_path (txn_request (encoded_key prefix number) (encoded_value added)) done heard
  pub result_is : result ≡ append_result (encoded_value added) heard

-- nothing was posted, and the header of the last reply that counts is as before
abbrev pub IsUnposted : Option Header → Option Header → List Exchange → Type 0
IsUnposted seen after done = (done ≡ []) × (after ≡ seen)

-- the exchanges and the result of an append to these known records, and the headers of the last reply that counts, before
-- and after it
abbrev pub AppendsBy : ℕ → Option Header → Option Header → List ℕ → ℕ → List Record → Record → List Exchange → Result (Unit {0}) AppendFault → Type 0
AppendsBy most seen after prefix limit kept added done result =
    ((HasRoom limit kept (length added.bytes) → ⊥) × IsUnposted seen after done × (result ≡ Err append.Full))
    ⊎ (HasRoom limit kept (length added.bytes) × ((IsUnposted seen after done × (result ≡ Err (append.Failed cause.Memory)))
    ⊎ IsPosted most seen after prefix (length kept + 1) added done result))

-- what is read of a value: the record that has it, or damage if none has; or memory ran out
abbrev pub ReadsValue : List ℕ → Result (Option Record) ReadFault → Type 0
ReadsValue value (Ok (Some next)) = decode_of standard value ≡ Ok (value_of next)
ReadsValue value (Ok None) = ⊥
ReadsValue value (Err (read.Failed cause.Memory)) = ⊤
ReadsValue value (Err (read.Failed cause.Damaged)) = (next : Record) → decode_of standard value ≡ Ok (value_of next) → ⊥
ReadsValue value (Err (read.Failed other)) = ⊥

-- the same of what a read finds, if it finds a value
abbrev pub ReadsFound : Option (List ℕ) → Result (Option Record) ReadFault → Type 0
ReadsFound None result = result ≡ Ok None
ReadsFound (Some value) result = ReadsValue value result

-- rule: Read from etcd
-- what is reported of a read by what is heard
abbrev pub ReadsBy : Heard → Result (Option Record) ReadFault → Type 0
ReadsBy (replied reply in_doubt) result = ReadsFound (found_in reply) result
ReadsBy (unreplied cause in_doubt) result = result ≡ Err (read.Failed cause)
ReadsBy no_memory result = result ≡ Err (read.Failed cause.Memory)

-- a read posts the request of its number until it hears of it
pub record IsReadAt (most : ℕ) (seen after : Option Header) (prefix : List ℕ) (number : ℕ) (done : List Exchange)
    (result : Result (Option Record) ReadFault) : Type 0 where
  pub heard : Heard
  pub seen_is : after ≡ seen_by seen heard
  pub is_heard : IsHeard most seen range_path (range_request (encoded_key prefix number)) done heard
  pub reads : ReadsBy heard result

-- the exchanges and the result of a read after these known records, of which there are at most 65536, and the headers of
-- the last reply that counts, before and after it
abbrev pub NextBy : ℕ → Option Header → Option Header → List ℕ → List Record → List Exchange → Result (Option Record) ReadFault → Type 0
NextBy most seen after prefix kept done result =
    ((length kept ≡ 65536) × IsUnposted seen after done × (result ≡ Ok None))
    ⊎ (IsUnposted seen after done × (result ≡ Err (read.Failed cause.Memory)))
    ⊎ IsReadAt most seen after prefix (length kept + 1) done result
