-- The script of a file; this project's profile.
use Rattle.std.specs.Prelude.{◌≡◌, ◌⊎◌, ⊤, ℕ, true, List, Option, None, Some, Result, Ok, Err}
use Rattle.streams.specs.Reading.{IsLonger, IsWhole}
use Rattle.catalogue.specs.declared.edit.Edit.{Edit}
use Rattle.profile_toml.specs.Reading.{script_of_bytes}
use Rattle.profiles.specs.Profiles.{Files}
use Rattle.failures.specs.declared.failure.Failure.{Failure}
use Rattle.failures.specs.declared.failure.Failure.TheVariants as failure

-- how many bytes a script may have
abbrev pub max_script : ℕ
max_script = 262144

-- a script: the number of the edition that it is written for, and its edits
abbrev pub Script : Type 0
Script = ℕ × List Edit

-- why bytes aren't read as a script
abbrev pub IsUnreadScript : List ℕ → Failure → Type 0
IsUnreadScript bytes (failure.Script fault) = script_of_bytes bytes ≡ Err fault
IsUnreadScript bytes failure.Memory = ⊤
IsUnreadScript bytes refusal = ⊥

-- the script of a file; its first fault; or the file can't be read, or has too many bytes
abbrev pub IsScriptOf : Files → List ℕ → Result Script Failure → Type 0
IsScriptOf files path (Ok script) =
    (bytes : List ℕ) × IsWhole (files path) max_script bytes × (script_of_bytes bytes ≡ Ok script)
IsScriptOf files path (Err (failure.Script fault)) =
    (bytes : List ℕ) × IsWhole (files path) max_script bytes × (script_of_bytes bytes ≡ Err fault)
IsScriptOf files path (Err (failure.File named)) =
    (named ≡ path) × (((files path).failed ≡ true) ⊎ IsLonger (files path) max_script)
IsScriptOf files path (Err failure.Memory) = ⊤
IsScriptOf files path (Err refusal) = ⊥

-- the script of a review, if it has one
abbrev pub IsScriptRead : Files → Option (List ℕ) → Result (Option Script) Failure → Type 0
IsScriptRead files None read = read ≡ Ok None
IsScriptRead files (Some path) (Ok None) = ⊥
IsScriptRead files (Some path) (Ok (Some script)) = IsScriptOf files path (Ok script)
IsScriptRead files (Some path) (Err refusal) = IsScriptOf files path (Err refusal)
