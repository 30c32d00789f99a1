-- What contracts see of records in etcd, and what is so of them; this project's profile.
use Rattle.std.specs.Prelude.{◌≡◌, ◌⊎◌, ◌+◌, ◌<◌, ◌≤◌, ℕ, false, true, List, length, slice_get, Option, Some, MatchOption, Ok, refl, ⊤, Bool, [], ◌∷◌, ◌++◌, None}
use Rattle.std.specs.Coded.{Coded, code_by, coded×, coded_bool, coded_list, coded_option, coded_ℕ}
use Rattle.std.specs.List.{Contains}
use Rattle.base64.specs.Engines.{standard}
use Rattle.base64.specs.GeneralPurpose.{decode_of}
use Rattle.serde_json.specs.Data.{Data}
use Rattle.kept_records.specs.Keeping.{bytes_in}
use Rattle.kept_records.specs.contracts.record.Record as kept_record
use Rattle.kept_records.specs.declared.record.Record.{Record}
use Rattle.etcd_records.specs.declared.exchange.Exchange.{Exchange}
use Rattle.etcd_records.specs.declared.handle.Last.{Last}
use Rattle.etcd_records.specs.contracts.headers.Header as header
use Rattle.etcd_records.specs.declared.headers.Header.{Header}
use Rattle.etcd_records.specs.Asking.{Asks}
use Rattle.etcd_records.specs.Keys.{encoded_key, value_of}
use Rattle.etcd_records.specs.Replies.{found_in, held_in, is_created, reply_in}
use Rattle.etcd_records.specs.Requests.{range_path, range_request, txn_path, txn_request}

-- a gateway, how often a request is posted until a server replies, the prefix of the keys, the records that are known
-- to be stored, how many bytes all may have, whether the last one was read, and the header of the last reply that counts
pub record Handle (G : Type 0) : Type 0 where
  pub gateway : G
  pub attempts : ℕ
  pub prefix : List ℕ
  pub kept : List Record
  pub limit : ℕ
  pub read : Bool
  pub seen : Option Header

abbrev pub handle_code : {G : Type 0} → Coded G → Coded (Handle G)
handle_code {G} gateway =
    code_by (G × (ℕ × (List ℕ × (List Record × (ℕ × (Bool × Option Header))))))
    (coded× gateway (coded× coded_ℕ (coded× (coded_list coded_ℕ)
    (coded× (coded_list kept_record.the_row.coded) (coded× coded_ℕ (coded× coded_bool (coded_option header.the_row.coded)))))))
    (λ handle. (handle.gateway, (handle.attempts, (handle.prefix, (handle.kept, (handle.limit, (handle.read, handle.seen)))))))
    (λ p. record { gateway = p.0; attempts = p.1.0; prefix = p.1.1.0; kept = p.1.1.1.0; limit = p.1.1.1.1.0; read = p.1.1.1.1.1.0; seen = p.1.1.1.1.1.1 })
    (λ _. refl)

-- the known records: those before the last one, and the last one
abbrev pub known_in : List Record → Option Last → List Record
known_in marks None = marks
known_in marks (Some last) = marks ++ last.mark ∷ []

-- the last one was read
abbrev pub is_read : Option Last → Bool
is_read None = false
is_read (Some last) = last.was_read

-- what an exchange says of a key: a read found this value there, or an append did, or it put the value
abbrev pub ShowsOf : List ℕ → List ℕ → Exchange → Data → Type 0
ShowsOf key value it reply =
    (Asks range_path (range_request key) it × (found_in reply ≡ Some value))
    ⊎ ((other : List ℕ) × Asks txn_path (txn_request key other) it
    × (is_created reply ≡ false) × (held_in reply ≡ Some value))
    ⊎ (Asks txn_path (txn_request key value) it × (is_created reply ≡ true))

-- etcd replied in this exchange that the key has this value; both in base64
abbrev pub Shows : List ℕ → List ℕ → Exchange → Type 0
Shows key value it = (reply : Data) × (reply_in it.outcome ≡ Some reply) × ShowsOf key value it reply

-- an exchange has shown that the number has this record
pub record IsShown (exchanges : List Exchange) (prefix : List ℕ) (number : ℕ) (kept : Record) : Type 0 where
  pub exchange : Exchange
  pub value : List ℕ
  pub done : Contains exchanges exchange
  pub shows : Shows (encoded_key prefix number) value exchange
  pub decodes : decode_of standard value ≡ Ok (value_of kept)

-- rule: Known records in etcd
-- an exchange has shown each of these records, numbered in order from 1
abbrev pub AreShown : List Exchange → List ℕ → List Record → Type 0
AreShown exchanges prefix kept =
    (at : ℕ) (it : Record) → slice_get kept at ≡ Some it → IsShown exchanges prefix (at + 1) it

-- what is left of the limit beside bytes, if they are within it
abbrev pub IsLeft : ℕ → ℕ → Option ℕ → Type 0
IsLeft limit bytes left = MatchOption left (limit < bytes) (λ rest. rest + bytes ≡ limit)

-- what was left before the last record
abbrev pub WasLeft : ℕ → List Record → Option Last → Type 0
WasLeft limit marks None = ⊤
WasLeft limit marks (Some last) = IsLeft limit (bytes_in marks) last.left

-- what is so of the fields
pub record IsHandle (exchanges : List Exchange) (prefix : List ℕ) (count : ℕ) (left : Option ℕ) (limit : ℕ)
    (marks : List Record) (last : Option Last) : Type 0 where
  pub counted : count ≡ length (known_in marks last)
  pub bounded : count ≤ 65536
  pub left_is : IsLeft limit (bytes_in (known_in marks last)) left
  pub shown : AreShown exchanges prefix (known_in marks last)
  pub before : WasLeft limit marks last

-- nothing but the gateway, the known records, whether the last one was read, and the header of the last reply that counts
-- differs
pub record IsSameBut {G : Type 0} (old new : Handle G) : Type 0 where
  pub attempts : new.attempts ≡ old.attempts
  pub prefix : new.prefix ≡ old.prefix
  pub limit : new.limit ≡ old.limit
