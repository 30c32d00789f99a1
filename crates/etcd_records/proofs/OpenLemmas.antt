-- Reading all records, one after another.
use Rattle.std.proofs.Common.{◌≡◌, ℕ, ◌+◌, List, [], ◌++◌, length, Option, Some, None, Result, Ok, Err, refl, sym, subst, inl, inr}
use Rattle.kept_records.specs.Keeping.{Learns}
use Rattle.kept_records.specs.declared.fault.Cause.TheVariants.{Memory}
use Rattle.kept_records.specs.declared.fault.ReadFault.{ReadFault}
use Rattle.kept_records.specs.declared.fault.ReadFault.TheVariants as read
use Rattle.kept_records.specs.declared.record.Record.{Record}
use Rattle.etcd_records.specs.declared.exchange.Exchange.{Exchange}
use Rattle.etcd_records.specs.Appending.{NextBy, ReadsBy, ReadsFound}
use Rattle.etcd_records.specs.Asking.{Heard, replied, unreplied, no_memory, IsHeard}
use Rattle.etcd_records.specs.declared.headers.Header.{Header}
use Rattle.etcd_records.specs.Handles.{Handle, IsSameBut}
use Rattle.etcd_records.specs.Keys.{encoded_key}
use Rattle.etcd_records.specs.Openings.{AreAll, FindsNone, GoesOn, OpenFails, open_fault_of}
use Rattle.etcd_records.specs.Replies.{found_in}
use Rattle.etcd_records.specs.Requests.{range_path, range_request}

-- so many records were read, and all of them are known
pub record AreRead {G : Type 0} (exchanges : G → List Exchange) (old now : Handle G) (all : List Record)
    (count : ℕ) : Type 0 where
  pub known : now.kept ≡ all
  pub counted : length all ≡ count
  pub same : IsSameBut old now
  pub goes_on : GoesOn (exchanges old.gateway) (exchanges now.gateway)

not_none : (fault : ReadFault) → (let read : Result (Option Record) ReadFault = Ok None in read ≡ Err fault) → ⊥
not_none fault is = cc

finds_none : (most : ℕ) (seen : Option Header) (prefix : List ℕ) (number : ℕ) (done : List Exchange) (heard : Heard)
    → IsHeard most seen range_path (range_request (encoded_key prefix number)) done heard → ReadsBy heard (Ok None)
    → FindsNone most prefix number done
finds_none most seen prefix number done (replied reply is_doubtful) is reads = (seen, reply, is_doubtful, is, found (found_in reply) refl reads)
  where
    found : (value : Option (List ℕ)) → found_in reply ≡ value → ReadsFound value (Ok None) → found_in reply ≡ None
    found None same read = same
    found (Some value) same read = absurd read
finds_none most seen prefix number done (unreplied why is_doubtful) is reads = absurd (not_none _ reads)
finds_none most seen prefix number done no_memory is reads = absurd (not_none _ reads)

-- a read that found no record was after all of them
pub all_read : (most : ℕ) (seen after : Option Header) (prefix : List ℕ) (kept : List Record) (old new done : List Exchange)
    → new ≡ old ++ done → NextBy most seen after prefix kept done (Ok None) → AreAll most new prefix kept
all_read most seen after prefix kept old new done is (inl full) = inl full.0
all_read most seen after prefix kept old new done is (inr (inl cut)) = absurd (not_none _ cut.1)
all_read most seen after prefix kept old new done is (inr (inr read)) =
    inr (old, done, is, finds_none most seen prefix (length kept + 1) done read.heard read.is_heard read.reads)

-- the same by what it is known of
pub AreAll-at : (most now : ℕ) (exchanges : List Exchange) (prefix after : List ℕ) (kept final : List Record)
    → now ≡ most → after ≡ prefix → final ≡ kept → AreAll most exchanges prefix kept → AreAll now exchanges after final
AreAll-at most now exchanges prefix after kept final same also is are =
    subst (λ (n : ℕ). AreAll n exchanges after final) (sym same)
    (subst (λ (p : List ℕ). AreAll most exchanges p final) (sym also)
    (subst (λ (all : List Record). AreAll most exchanges prefix all) (sym is) are))

-- the records after a read that found none
pub none_after : {G : Type 0} (exchanges : G → List Exchange) (mid new : Handle G) (found : Option Record)
    → found ≡ None → IsSameBut mid new
    → Learns (Ok found) mid.kept new.kept
    → ((done : List Exchange) × (exchanges new.gateway ≡ exchanges mid.gateway ++ done) × NextBy mid.attempts mid.seen new.seen mid.prefix mid.kept done (Ok found))
    → AreAll new.attempts (exchanges new.gateway) new.prefix new.kept
none_after exchanges mid new None is same learns by =
    AreAll-at mid.attempts new.attempts (exchanges new.gateway) mid.prefix new.prefix mid.kept new.kept same.attempts same.prefix learns
    (all_read mid.attempts mid.seen new.seen mid.prefix mid.kept (exchanges mid.gateway) (exchanges new.gateway) by.0 by.1 by.2)
none_after exchanges mid new (Some next) is same learns by = cc

-- an open fails as a read does that keeps to what it was made with
pub fails_by : {G : Type 0} (old now : Handle G) (seen after : Option Header) (why : ReadFault) (kept : List Record) (done : List Exchange) → IsSameBut old now
    → NextBy now.attempts seen after now.prefix kept done (Err why) → OpenFails old.attempts old.prefix (open_fault_of why)
fails_by old now seen after why kept done same by = (
  why,
  refl,
  seen,
  after,
  kept,
  done,
  subst (λ (n : ℕ). NextBy n seen after old.prefix kept done (Err why)) same.attempts
      (subst (λ (p : List ℕ). NextBy now.attempts seen after p kept done (Err why)) same.prefix by),
)

-- an open that runs out of memory
pub fails_full : (most : ℕ) (prefix : List ℕ) → OpenFails most prefix (open_fault_of (read.Failed Memory))
fails_full most prefix = (read.Failed Memory, refl, None, None, [], [], inr (inl ((refl, refl), refl)))
