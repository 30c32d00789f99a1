-- What a script comes to that is sent to the operator's desk; this project's profile.
use Rattle.std.specs.Prelude.{◌≡◌, ◌⊎◌, ℕ, ◌+◌, ◌-◌, List, length, Result, Ok, Err, Option, None, Some}
use Rattle.catalogue.specs.declared.edit.Edit.{Edit}
use Rattle.catalogue.specs.Histories.{History}
use Rattle.http_desks.specs.declared.desk.DeskStatus.{DeskStatus}
use Rattle.http_desks.specs.declared.desk.DeskStatus.TheVariants as status
use Rattle.http_desks.specs.declared.desk.Off.{Off}
use Rattle.http_desks.specs.declared.desk.Off.TheVariants as off
use Rattle.profile_toml.specs.Reading.{script_of_bytes}
use Rattle.profile_toml.specs.declared.fault.ProfileFault.{ProfileFault}
use Rattle.publisher.specs.Publishing.{Prepares, Publishes}
use Rattle.publisher.specs.declared.fault.PublishError.{PublishError}
use Rattle.publisher.specs.declared.fault.PublishError.TheVariants as publishing
use Rattle.service_desks.specs.Lines.{IsUnkept, edition_line, full_line, refused_line, script_line, stale_line}
use Rattle.service_desks.specs.States.{Publication, earlier_in, settled, with_due, with_script}

-- rule: Reply to a script
-- the status and the line for what a publish came to, after so many earlier editions; none if memory ran out, or there is
-- no place for a reader, which a publish doesn't look for
abbrev pub publish_reply : ℕ → Result History PublishError → Option (DeskStatus × List ℕ)
publish_reply earlier (Ok receipt) = Some (status.Success, edition_line (earlier + length receipt))
publish_reply earlier (Err (publishing.Stale now)) = Some (status.Conflict, stale_line (earlier + length now))
publish_reply earlier (Err (publishing.Refused refused)) = Some (status.UnprocessableContent, refused_line refused)
publish_reply earlier (Err publishing.HistoryFull) = Some (status.UnprocessableContent, full_line)
publish_reply earlier (Err publishing.NoPlace) = None
publish_reply earlier (Err publishing.Memory) = None

-- rule: Kept script
-- what a publish of a script leaves: its edition is published and the script is kept, or all is as before
abbrev pub left_by : Publication → List ℕ → Result History PublishError → Publication
left_by before script (Ok receipt) = record { history = receipt; store = with_script before.store script }
left_by before script (Err error) = before

-- a batch was published on a base and its script kept, or neither, and the reply says which
pub record IsPublished (before : Publication) (script : List ℕ) (base : ℕ) (batch : List Edit)
    (reply : DeskStatus × List ℕ) (after : Publication) : Type 0 where
  pub outcome : Result History PublishError
  pub published : Publishes before.history (base - earlier_in before.store) batch outcome after.history
  pub left : after ≡ left_by before script outcome
  pub replied : publish_reply (earlier_in before.store) outcome ≡ Some reply

-- rule: Due edition
-- a script was kept, and its edition is due, as memory ran out
pub record IsAhead (before : Publication) (script : List ℕ) (after : Publication) : Type 0 where
  pub base : ℕ
  pub batch : List Edit
  pub read : script_of_bytes script ≡ Ok (base, batch)
  pub next : History
  pub prepared : Prepares before.history (base - earlier_in before.store) batch (Ok next)
  pub left : after ≡ record { history = before.history; store = with_due before.store script next }

-- the reply to a script, or to its fault: 400, and nothing is published. Nothing is either if it can't be kept
abbrev pub IsScriptReply :
    Publication → List ℕ → Result (ℕ × List Edit) ProfileFault → DeskStatus × List ℕ → Publication → Type 0
IsScriptReply before script (Ok read) reply after =
    IsPublished before script read.0 read.1 reply after ⊎ (IsUnkept reply × (after ≡ before))
IsScriptReply before script (Err fault) reply after =
    (reply ≡ (status.BadRequest, script_line fault)) × (after ≡ before)

-- rule: Performed script
-- what the script that an input is comes to. What is due is shown first. If memory runs out, for the reply too, nothing is
-- published but what was due; if that could be shown, the script may be kept, and its edition is then due. If the script
-- isn't kept, it isn't published.
abbrev pub Performs : Publication → List ℕ → Result (DeskStatus × List ℕ) Off → Publication → Type 0
Performs before input (Ok reply) after = IsScriptReply (settled before) input (script_of_bytes input) reply after
Performs before input (Err off.Memory) after =
    (after ≡ before) ⊎ (after ≡ settled before) ⊎ IsAhead (settled before) input after
Performs before input (Err off.Closed) after = after ≡ settled before

-- what a script comes to that may meet another server's record at its number: then it has no reply yet, and only what was
-- due is shown
abbrev pub Attempts : Publication → List ℕ → Option (Result (DeskStatus × List ℕ) Off) → Publication → Type 0
Attempts before input (Some answer) after = Performs before input answer after
Attempts before input None after = after ≡ settled before
