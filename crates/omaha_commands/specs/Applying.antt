-- What a script makes of an edition; this project's profile.
use Rattle.std.specs.Prelude.{◌≡◌, ℕ, ◌==◌, Bool, true, false, List, Result, Ok, Err}
use Rattle.catalogue.specs.declared.edit.Edit.{Edit}
use Rattle.catalogue.specs.Histories.{History}
use Rattle.editions.specs.Editions.{Continues}
use Rattle.editions.specs.declared.fault.NextError.{NextError}
use Rattle.omaha_commands.specs.Reviewing.{failure_of_next}
use Rattle.omaha_commands.specs.ScriptFiles.{Script}
use Rattle.failures.specs.declared.failure.Failure.{Failure}
use Rattle.failures.specs.declared.failure.Failure.TheVariants as failure

-- the edition that edits make of another one, or why there is none
abbrev pub IsNext : History → List Edit → Result History Failure → Type 0
IsNext history batch (Ok after) = Continues history batch (Ok after)
IsNext history batch (Err refusal) =
    (error : NextError) × (refusal ≡ failure_of_next error) × Continues history batch (Err error)

-- what a script makes of an edition, by whether it is written for it
abbrev pub AppliesIf : Bool → History → ℕ → List Edit → Result History Failure → Type 0
AppliesIf true history number batch applied = IsNext history batch applied
AppliesIf false history number batch applied = applied ≡ Err (failure.Stale number)

-- rule: Checked script
-- what a script makes of an edition of a number
abbrev pub Applies : History → ℕ → Script → Result History Failure → Type 0
Applies history number script applied = AppliesIf (script.0 == number) history number script.1 applied
