-- What the records of a history lead to, and why they lead to nothing; this project's profile.
use Rattle.std.specs.Prelude.{◌≡◌, ⊤, ℕ, zero, suc, false, List, [], ◌∷◌, slice_get, take, Ok, Err, Some}
use Rattle.std.specs.Str.Parse.{digits_value}
use Rattle.catalogue.specs.declared.edit.Edit.{Edit}
use Rattle.catalogue.specs.Histories.{History}
use Rattle.editions.specs.Editions.{Continues}
use Rattle.editions.specs.declared.fault.NextError.TheVariants as next
use Rattle.kept_records.specs.declared.record.Kind.{Kind}
use Rattle.kept_records.specs.declared.record.Kind.TheVariants as kind
use Rattle.kept_records.specs.declared.record.Record.{Record}
use Rattle.mirror_ledger.specs.Raising.{RaisesTo}
use Rattle.profile_toml.specs.Reading.{profile_of_bytes, script_of_bytes}
use Rattle.catalogue.specs.declared.mirror.Mirror.{Mirror}
use Rattle.service_desks.specs.Raises.{Replays, raise_of}
use Rattle.failures.specs.declared.record_fault.RecordFault.{RecordFault}
use Rattle.failures.specs.declared.record_fault.RecordFault.TheVariants as fault
use Rattle.omaha_histories.specs.declared.restarts.fault.RestoreError.{RestoreError}
use Rattle.omaha_histories.specs.declared.restarts.fault.RestoreError.TheVariants as restore

-- what is found in records: a history of accepted batches, and mirrors with their budgets
pub record Found : Type 0 where
  pub history : History
  pub mirrors : List Mirror

-- a profile begins a history: with its one batch, which is accepted, and with its mirrors
abbrev pub BeginsAs : Kind → List ℕ → Found → Type 0
BeginsAs kind.Profile bytes found =
    (batch : List Edit) × (profile_of_bytes bytes ≡ Ok (batch, found.mirrors)) × Continues [] batch (Ok found.history)
BeginsAs kind.Script bytes found = ⊥
BeginsAs kind.Raise bytes found = ⊥

abbrev pub Begins : Record → Found → Type 0
Begins first found = BeginsAs first.kind first.bytes found

-- a script adds its batch, which is accepted after those before it; a raise gives one mirror its budget
abbrev pub FollowsAs : Kind → List ℕ → Found → Found → Type 0
FollowsAs kind.Profile bytes before after = ⊥
FollowsAs kind.Script bytes before after =
    (base : ℕ) × (batch : List Edit) × (script_of_bytes bytes ≡ Ok (base, batch))
    × Continues before.history batch (Ok after.history) × (after.mirrors ≡ before.mirrors)
FollowsAs kind.Raise bytes before after =
    (asked : List ℕ × List ℕ) × (raise_of bytes ≡ Some asked)
    × RaisesTo before.mirrors after.mirrors asked.0 (digits_value 10 asked.1) (Ok tt) × (after.history ≡ before.history)

abbrev pub Follows : Found → Record → Found → Type 0
Follows before entry after = FollowsAs entry.kind entry.bytes before after

-- each record follows what those before it lead to
abbrev pub FollowAll : Found → List Record → Found → Type 0
FollowAll before [] after = after ≡ before
FollowAll before (entry ∷ records) after = (between : Found) × Follows before entry between × FollowAll between records after

-- rule: Restart from records
-- what records lead to
abbrev pub LeadTo : List Record → Found → Type 0
LeadTo [] found = ⊥
LeadTo (first ∷ others) found = (start : Found) × Begins first start × FollowAll start others found

-- why a first record begins nothing
abbrev pub BeginsNothing : Kind → List ℕ → RecordFault → Type 0
BeginsNothing kind.Profile bytes (fault.Profile error) = profile_of_bytes bytes ≡ Err error
BeginsNothing kind.Profile bytes (fault.Refused refused) =
    (profile : List Edit × List Mirror) × (profile_of_bytes bytes ≡ Ok profile)
    × Continues [] profile.0 (Err (next.Refused refused))
BeginsNothing kind.Profile bytes other = ⊥
BeginsNothing kind.Script bytes fault.NoProfile = ⊤
BeginsNothing kind.Script bytes other = ⊥
BeginsNothing kind.Raise bytes fault.NoProfile = ⊤
BeginsNothing kind.Raise bytes other = ⊥

-- why a record doesn't follow
abbrev pub FollowsNothing : Kind → List ℕ → Found → RecordFault → Type 0
FollowsNothing kind.Profile bytes before fault.SecondProfile = ⊤
FollowsNothing kind.Profile bytes before other = ⊥
FollowsNothing kind.Script bytes before (fault.Script error) = script_of_bytes bytes ≡ Err error
FollowsNothing kind.Script bytes before (fault.Refused refused) =
    (script : ℕ × List Edit) × (script_of_bytes bytes ≡ Ok script)
    × Continues before.history script.1 (Err (next.Refused refused))
FollowsNothing kind.Script bytes before fault.HistoryFull =
    (script : ℕ × List Edit) × (script_of_bytes bytes ≡ Ok script)
    × Continues before.history script.1 (Err next.HistoryFull)
FollowsNothing kind.Script bytes before other = ⊥
FollowsNothing kind.Raise bytes before fault.Raise = Replays before.mirrors bytes false before.mirrors
FollowsNothing kind.Raise bytes before other = ⊥

-- the record at an index is the first one that doesn't follow
abbrev pub StopsAt : List Record → ℕ → RecordFault → Type 0
StopsAt [] index error = ⊥
StopsAt (first ∷ others) zero error = BeginsNothing first.kind first.bytes error
StopsAt (first ∷ others) (suc index) error =
    (found : Found) × LeadTo (first ∷ take index others) found
    × ((entry : Record) × (slice_get others index ≡ Some entry) × FollowsNothing entry.kind entry.bytes found error)

-- why records lead to nothing: there are none, or one doesn't follow; or memory ran out
abbrev pub IsFaultOf : List Record → RestoreError → Type 0
IsFaultOf records restore.Memory = ⊤
IsFaultOf records restore.Empty = records ≡ []
IsFaultOf records (restore.Record index error) = StopsAt records index error
