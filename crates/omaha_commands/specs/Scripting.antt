-- What the command `script` prints; this project's profile.
use Rattle.std.specs.Prelude.{◌≡◌, ◌⊎◌, ℕ, List, Result, Ok, Err}
use Rattle.profile_toml.specs.declared.fault.ProfileFault.{ProfileFault}
use Rattle.profile_toml.specs.Lines.{script_written}
use Rattle.omaha_arguments.specs.declared.command.Base.{Base}
use Rattle.omaha_arguments.specs.declared.command.Base.TheVariants.{Number, Server}
use Rattle.omaha_arguments.specs.declared.command.Script.{Script}
use Rattle.omaha_commands.specs.Asking.{HasEdition}
use Rattle.omaha_commands.specs.Operating.{Listeners}
use Rattle.profiles.specs.Printing.{Prints}
use Rattle.omaha_commands.specs.Reviewing.{IsUnanswered}
use Rattle.profiles.specs.Streams.{Streams}
use Rattle.failures.specs.declared.failure.Failure.{Failure}
use Rattle.failures.specs.declared.failure.Failure.TheVariants as failure

-- the edition that the script is for, by its number, or as a server names it
abbrev pub IsBase : Listeners → Base → Result ℕ Failure → Type 0
IsBase listeners (Number given) base = base ≡ Ok given
IsBase listeners (Server to) (Ok number) = HasEdition listeners to number
IsBase listeners (Server to) (Err refusal) = IsUnanswered to (Err refusal)

-- the script of some words for an edition, or why there is none: the fault of reading it, or memory ran out
abbrev pub IsScript : ℕ → List (List ℕ) → Result (List ℕ) Failure → Type 0
IsScript base words (Ok text) = script_written base words ≡ Ok text
IsScript base words (Err refusal) =
    (refusal ≡ failure.Memory)
    ⊎ ((fault : ProfileFault) × (refusal ≡ failure.Script fault) × (script_written base words ≡ Err fault))

-- what follows from the edition
abbrev pub IsScriptFor : Result ℕ Failure → List (List ℕ) → Result (List ℕ) Failure → Type 0
IsScriptFor (Ok base) words found = IsScript base words found
IsScriptFor (Err refusal) words found = found ≡ Err refusal

-- the edition is found first, and then the script is made
abbrev pub FindsScript : Listeners → Script → Result (List ℕ) Failure → Type 0
FindsScript listeners asked found =
    (base : Result ℕ Failure) × IsBase listeners asked.base base × IsScriptFor base asked.words found

-- rule: Printed script
-- the script is made, and what was made is printed
pub record PrintsScript (listeners : Listeners) (asked : Script) (old new : Streams) (result : Result (Unit {0}) Failure) : Type 0 where
  pub found : Result (List ℕ) Failure
  pub is : FindsScript listeners asked found
  pub printed : Prints found old new result
