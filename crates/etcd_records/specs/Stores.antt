-- Which records a path opens; this project's profile.
use Rattle.std.specs.Prelude.{◌≡◌, ℕ, Bool, ◌*◌, min, max, List, length, Option, None, Some, Result, Ok, Err, true, ⊤}
use Rattle.etcd_records.specs.Paths.{Parts, addresses_in}
use Rattle.etcd_records.specs.declared.paths.fault.EtcdPathFault.{EtcdPathFault}
use Rattle.kept_records.specs.declared.fault.OpenFault.{OpenFault}
use Rattle.kept_records.specs.declared.fault.OpenFault.TheVariants.{Unopened}
use Rattle.kept_records.specs.declared.record.Record.{Record}
use Rattle.etcd_records.specs.Handles.{AreShown, Handle}
use Rattle.etcd_records.specs.Openings.{AreAll, OpenFails}
use Rattle.etcd_records.specs.declared.exchange.Exchange.{Exchange}
use Rattle.etcd_records.specs.Gateways.{Posts}
use Rattle.etcd_records.specs.declared.gateways.any_records.AnyRecords.{AnyRecords}
use Rattle.etcd_records.specs.declared.gateways.any_records.AnyRecords.TheVariants.{InFile, InEtcd}

-- the known records
abbrev pub known_in : {R K : Type 0} → (K → List Record) → AnyRecords R K → List Record
known_in kept_of (InFile records) = kept_of records
known_in kept_of (InEtcd records) = records.kept

-- the number of the first one, which is 1 in etcd
abbrev pub first_in : {R K : Type 0} → (K → ℕ) → AnyRecords R K → ℕ
first_in first_of (InFile records) = first_of records
first_in first_of (InEtcd records) = 1

-- whether a restart finds them, as it does those in etcd
abbrev pub lasts_in : {R K : Type 0} → (K → Bool) → AnyRecords R K → Bool
lasts_in lasts (InFile records) = lasts records
lasts_in lasts (InEtcd records) = true

-- the last known one was read
abbrev pub was_read_in : {R K : Type 0} → (K → Type 0) → AnyRecords R K → Type 0
was_read_in was_read (InFile records) = was_read records
was_read_in was_read (InEtcd records) = records.read ≡ true

-- how often a request is posted until one of so many servers replies: three for each, and six at least
abbrev pub attempts_for : ℕ → ℕ
attempts_for servers = max (min servers 16 * 3) 6

-- these are all records in etcd below a prefix, by what its servers replied
abbrev pub AreInEtcd : Parts → List Record → Type 0
AreInEtcd parts records = (exchanges : List Exchange) × AreShown exchanges parts.prefix records
    × AreAll (attempts_for (length (addresses_in parts.hosts))) exchanges parts.prefix records

-- which records may be found at a path: those in etcd, if it has such parts, or those that the other stores find
abbrev pub AreFoundAt : (ℕ → List Record → Type 0) → Option (Result Parts EtcdPathFault) → ℕ → List Record → Type 0
AreFoundAt found None first records = found first records
AreFoundAt found (Some (Ok parts)) first records = (first ≡ 1) × AreInEtcd parts records
AreFoundAt found (Some (Err why)) first records = ⊥

-- the handle has all records below the prefix of a path, and keeps to the limit
pub record IsHandleOf (parts : Parts) (limit : ℕ) (handle : Handle Posts) : Type 0 where
  pub prefix : handle.prefix ≡ parts.prefix
  pub attempts : handle.attempts ≡ attempts_for (length (addresses_in parts.hosts))
  pub limit_is : handle.limit ≡ limit
  pub shown : AreShown handle.gateway.exchanges parts.prefix handle.kept
  pub all : AreAll (attempts_for (length (addresses_in parts.hosts))) handle.gateway.exchanges parts.prefix handle.kept

-- rule: Store of a path
-- the records are in etcd if the path has the parts of such a path, and those of the other stores if it begins otherwise
abbrev pub AreOpenedAt : {R K : Type 0} → Option (Result Parts EtcdPathFault) → ℕ → AnyRecords R K → Type 0
AreOpenedAt None limit (InFile records) = ⊤
AreOpenedAt (Some (Ok parts)) limit (InEtcd records) = IsHandleOf parts limit records
AreOpenedAt path limit records = ⊥

-- why a path opens nothing: one of etcd as a read there fails, or because it is invalid
abbrev pub AreUnopened : Option (Result Parts EtcdPathFault) → OpenFault → Type 0
AreUnopened None why = ⊤
AreUnopened (Some (Ok parts)) why = OpenFails (attempts_for (length (addresses_in parts.hosts))) parts.prefix why
AreUnopened (Some (Err invalid)) why = why ≡ Unopened
