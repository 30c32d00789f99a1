-- What an operator's desk adopts of a history that other servers share; this project's profile.
use Rattle.std.specs.Prelude.{◌≡◌, ◌⊎◌, ⊤, ℕ, ◌+◌, Bool, true, false, List, codes, length, Option, Result, Ok, Err, Some}
use Rattle.std.specs.Str.Parse.{digits_value}
use Rattle.catalogue.specs.declared.edit.Edit.{Edit}
use Rattle.catalogue.specs.Histories.{History}
use Rattle.editions.specs.Editions.{Continues}
use Rattle.http_desks.specs.declared.desk.DeskStatus.{DeskStatus}
use Rattle.http_desks.specs.declared.desk.DeskStatus.TheVariants as status
use Rattle.http_desks.specs.declared.desk.Off.{Off}
use Rattle.http_desks.specs.declared.desk.Off.TheVariants as off
use Rattle.kept_records.specs.declared.record.Kind.{Kind}
use Rattle.kept_records.specs.declared.record.Kind.TheVariants as kind
use Rattle.kept_records.specs.declared.record.Record.{Record}
use Rattle.mirror_ledger.specs.Raising.{RaisesTo}
use Rattle.profile_toml.specs.Reading.{script_of_bytes}
use Rattle.catalogue.specs.declared.mirror.Mirror.{Mirror}
use Rattle.service_desks.specs.Lines.{edition_line, followed_line, stale_line, unreachable_line}
use Rattle.service_desks.specs.Raises.{raise_of}
use Rattle.service_desks.specs.States.{State, earlier_in, publication_of, settled, store, with_due, with_raise, with_script}
use Rattle.service_desks.specs.declared.following.Unadopted.{Unadopted}
use Rattle.service_desks.specs.declared.following.Unadopted.TheVariants as unadopted

-- what an operator changes, in its parts
abbrev pub state : List Mirror → History → ℕ → List Record → Option History → State
state mirrors history first records due = record { mirrors = mirrors; history = history; store = store first records due }

-- a state once what is due is shown
abbrev pub settled_state : State → State
settled_state before = record {
  mirrors = before.mirrors;
  history = (settled (publication_of before)).history;
  store = (settled (publication_of before)).store;
}

-- the number of the edition that is published
abbrev pub number_in : State → ℕ
number_in state = earlier_in state.store + length state.history

-- a script that another server kept: its batch, which is accepted after those that are published
abbrev pub IsScriptAfter : History → List ℕ → History → Type 0
IsScriptAfter before script next =
    (base : ℕ) × (batch : List Edit) × (script_of_bytes script ≡ Ok (base, batch)) × Continues before batch (Ok next)

-- a raise that another server kept: a mirror got the budget
abbrev pub IsRaiseBy : List Mirror → List ℕ → List Mirror → Type 0
IsRaiseBy before raise after =
    (asked : List ℕ × List ℕ) × (raise_of raise ≡ Some asked)
    × RaisesTo before after asked.0 (digits_value 10 asked.1) (Ok tt)

-- rule: Record of another server
-- what a record of another server makes of a state, in which nothing is due: a script's edition is published, or a raise
-- gives a mirror its budget, and the record is known
abbrev pub AdoptsAs : Kind → List ℕ → State → State → Type 0
AdoptsAs kind.Profile bytes before after = ⊥
AdoptsAs kind.Script bytes before after =
    (next : History) × IsScriptAfter before.history bytes next
    × (after ≡ record { mirrors = before.mirrors; history = next; store = with_script before.store bytes })
AdoptsAs kind.Raise bytes before after =
    IsRaiseBy before.mirrors bytes after.mirrors
    × (after.history ≡ before.history) × (after.store ≡ with_raise before.store bytes)

pub record Adopts (before after : State) : Type 0 where
  pub entry : Record
  pub adopts : AdoptsAs entry.kind entry.bytes before after

-- the record is known and its edition is due, as memory ran out
pub record AdoptsLate (before after : State) : Type 0 where
  pub script : List ℕ
  pub next : History
  pub follows : IsScriptAfter before.history script next
  pub left : after ≡ record { mirrors = before.mirrors; history = before.history; store = with_due before.store script next }

-- whether there was a record of another server, which was adopted; or why that is not known. If memory runs out, its
-- edition may be due
abbrev pub AdoptsNext : State → Result Bool Unadopted → State → Type 0
AdoptsNext before (Ok true) after = Adopts before after
AdoptsNext before (Ok false) after = after ≡ before
AdoptsNext before (Err unadopted.Unreachable) after = after ≡ before
AdoptsNext before (Err unadopted.Closed) after = after ≡ before
AdoptsNext before (Err unadopted.Memory) after = (after ≡ before) ⊎ AdoptsLate before after

-- the reply without a record of another server
abbrev pub IsReplyWithout : Unadopted → Result (DeskStatus × List ℕ) Off → Type 0
IsReplyWithout unadopted.Unreachable (Ok reply) = reply ≡ (status.ServiceUnavailable, unreachable_line)
IsReplyWithout unadopted.Unreachable (Err off.Memory) = ⊤
IsReplyWithout unadopted.Unreachable (Err off.Closed) = ⊥
IsReplyWithout unadopted.Closed answer = answer ≡ Err off.Closed
IsReplyWithout unadopted.Memory answer = answer ≡ Err off.Memory

-- the body that asks for it
abbrev pub follow_word : List ℕ
follow_word = codes "follow"

-- what it comes to without a reply, once what is due is shown
abbrev pub StopsShort : State → Off → State → Type 0
StopsShort before off.Memory after = (after ≡ before) ⊎ AdoptsLate before after ⊎ Adopts before after
StopsShort before off.Closed after = after ≡ before

-- the same if what is due can't be shown, either
abbrev pub StopsEarly : State → Off → State → Type 0
StopsEarly before off.Memory after = (after ≡ before) ⊎ StopsShort (settled_state before) off.Memory after
StopsEarly before off.Closed after = StopsShort (settled_state before) off.Closed after

-- the reply that no server of the history replies, and all is as before
abbrev pub IsOutOfReach : State → DeskStatus × List ℕ → State → Type 0
IsOutOfReach before reply after = (after ≡ before) × (reply ≡ (status.ServiceUnavailable, unreachable_line))

-- rule: Server that follows
-- once what is due is shown: the number of the edition that is then published, after a record of another server or without
-- one; or that no server of the history replies
abbrev pub Follows : State → Result (DeskStatus × List ℕ) Off → State → Type 0
Follows before (Ok reply) after =
    (Adopts (settled_state before) after × (reply ≡ (status.Success, followed_line (number_in after))))
    ⊎ ((after ≡ settled_state before) × (reply ≡ (status.Success, edition_line (number_in after))))
    ⊎ IsOutOfReach (settled_state before) reply after
Follows before (Err off) after = StopsEarly before off after

-- rule: Server that gives way
-- what a script or a raise comes to whose number another server's record has: what is due is shown, that record is adopted,
-- and the reply is the number of the edition that is then published
abbrev pub GivesWay : State → Result (DeskStatus × List ℕ) Off → State → Type 0
GivesWay before (Ok reply) after =
    (Adopts (settled_state before) after × (reply ≡ (status.Conflict, stale_line (number_in after))))
    ⊎ IsOutOfReach (settled_state before) reply after
GivesWay before (Err off) after = StopsEarly before off after
