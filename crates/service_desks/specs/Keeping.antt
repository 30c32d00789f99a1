-- The steps of a script between its reading and its reply; this project's profile.
use Rattle.std.specs.Prelude.{◌≡◌, ◌⊎◌, ℕ, List, Option, None, Some, Result, Ok, Err}
use Rattle.catalogue.specs.declared.edit.Edit.{Edit}
use Rattle.catalogue.specs.Histories.{History}
use Rattle.http_desks.specs.declared.desk.DeskStatus.{DeskStatus}
use Rattle.http_desks.specs.declared.desk.Off.{Off}
use Rattle.http_desks.specs.declared.desk.Off.TheVariants as off
use Rattle.service_desks.specs.Lines.{IsUnkept}
use Rattle.service_desks.specs.Scripts.{IsAhead, IsPublished}
use Rattle.service_desks.specs.States.{Publication, with_due, with_script}
use Rattle.service_desks.specs.declared.attempt.Unkept.{Unkept}

-- a script was kept and its edition shown, or it was not kept; if memory ran out, it was kept and its edition is due, or
-- all is as before
abbrev pub IsKept : List ℕ → History → Publication → Result (Result (Unit {0}) Unkept) Off → Publication → Type 0
IsKept script next before (Ok (Ok done)) after =
    after ≡ record { history = next; store = with_script before.store script }
IsKept script next before (Ok (Err unkept)) after = after ≡ before
IsKept script next before (Err off.Memory) after =
    (after ≡ before) ⊎ (after ≡ record { history = before.history; store = with_due before.store script next })
IsKept script next before (Err off.Closed) after = ⊥

-- what a script comes to that was read, if nothing is due
abbrev pub IsScriptAnswer :
    List ℕ → ℕ → List Edit → Publication → Option (Result (DeskStatus × List ℕ) Off) → Publication → Type 0
IsScriptAnswer script base batch before (Some (Ok reply)) after =
    IsPublished before script base batch reply after ⊎ (IsUnkept reply × (after ≡ before))
IsScriptAnswer script base batch before (Some (Err off.Memory)) after = (after ≡ before) ⊎ IsAhead before script after
IsScriptAnswer script base batch before (Some (Err off.Closed)) after = after ≡ before
IsScriptAnswer script base batch before None after = after ≡ before
