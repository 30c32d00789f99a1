-- Why arguments ask for no command; this project's profile.
use Rattle.std.specs.Prelude.{◌≡◌, ◌≢◌, ◌⊎◌, ⊤}
use Rattle.clap.specs.Words.{IsAmong, Kinds}
use Rattle.clap.specs.declared.error.kind.ErrorKind.{ErrorKind}
use Rattle.clap.specs.declared.error.kind.ErrorKind.TheVariants as kind
use Rattle.omaha_arguments.specs.declared.error.ArgumentError.{ArgumentError}
use Rattle.omaha_arguments.specs.declared.error.ArgumentError.TheVariants as argument

-- the kinds of what `clap` prints on the standard output: the help and the version
abbrev pub IsShown : ErrorKind → Type 0
IsShown told = (told ≡ kind.DisplayHelp) ⊎ (told ≡ kind.DisplayVersion)

-- the arguments ask for the help or the version
abbrev pub AsksToShow : Kinds → Type 0
AsksToShow faults = (told : ErrorKind) × IsShown told × IsAmong told faults

-- the arguments are invalid
abbrev pub HasMistake : Kinds → Type 0
HasMistake faults = (told : ErrorKind) × (IsShown told → ⊥) × IsAmong told faults

-- what an error of `clap` of a kind says
abbrev pub IsOfKind : ErrorKind → ArgumentError → Type 0
IsOfKind told (argument.Shown text) = IsShown told
IsOfKind told (argument.Invalid text) = (IsShown told → ⊥) × (told ≢ kind.OutOfMemory)
IsOfKind told argument.Memory = ⊤

-- rule: Rejected arguments
-- the help is shown only if it is asked for, and arguments are invalid only if something is wrong with them
abbrev pub IsWhy : Kinds → ArgumentError → Type 0
IsWhy faults (argument.Shown text) = AsksToShow faults
IsWhy faults (argument.Invalid text) = HasMistake faults
IsWhy faults argument.Memory = ⊤
