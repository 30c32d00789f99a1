-- The packages that a script adds, compared with files before it is posted; this project's profile.
use Rattle.std.specs.Prelude.{◌≡◌, ◌⊎◌, ℕ, List, [], ◌∷◌, length, Option, None, Some, Result, Ok, Err}
use Rattle.std.specs.Io.KnownBytes.{Appends}
use Rattle.streams.specs.Streams.{Known}
use Rattle.streams.specs.Writing.{Breaks}
use Rattle.catalogue.specs.declared.edit.Edit.{Edit}
use Rattle.package_files.specs.Added.{added_in}
use Rattle.package_files.specs.FindingLines.{findings_string}
use Rattle.package_files.specs.Findings.{AreFindings}
use Rattle.package_files.specs.Storages.{Storage}
use Rattle.package_files.specs.declared.finding.Finding.{Finding}
use Rattle.profile_toml.specs.Reading.{script_of_bytes}
use Rattle.omaha_commands.specs.ScriptFiles.{IsUnreadScript, Script}
use Rattle.failures.specs.declared.failure.Failure.{Failure}
use Rattle.failures.specs.declared.failure.Failure.TheVariants as failure

-- nothing is printed of packages that agree; else the lines of what was found are, and the command fails with how many; or
-- the writer failed within them, or memory ran out before
abbrev pub EndsStocking : List Finding → Known → Known → Result (Unit {0}) Failure → Type 0
EndsStocking [] before after result = (result ≡ Ok tt) × (after ≡ before)
EndsStocking (finding ∷ findings) before after result =
    ((result ≡ Err (failure.Packages (length (finding ∷ findings))))
    × Appends before.bytes after.bytes (findings_string (finding ∷ findings)))
    ⊎ ((result ≡ Err failure.Write) × Breaks before after (findings_string (finding ∷ findings)))
    ⊎ ((result ≡ Err failure.Memory) × (after ≡ before))

-- the packages that a script adds were compared with the files of a folder; or memory ran out
abbrev pub StocksIn : Storage → List ℕ → List Edit → Known → Known → Result (Unit {0}) Failure → Type 0
StocksIn storage folder batch before after result =
    ((findings : List Finding) × AreFindings (storage.opens folder) (storage.reads folder) (added_in batch) findings
    × EndsStocking findings before after result)
    ⊎ ((result ≡ Err failure.Memory) × (after ≡ before))

-- the packages that a script adds are compared with the files of the folder that is named; without one nothing is compared
abbrev pub Stocks : Storage → Option (List ℕ) → List Edit → Known → Known → Result (Unit {0}) Failure → Type 0
Stocks storage None batch before after result = (result ≡ Ok tt) × (after ≡ before)
Stocks storage (Some folder) batch before after result = StocksIn storage folder batch before after result

-- what was read of a script to post, or why nothing was
abbrev pub StocksRead : Storage → List ℕ → Result Script Failure → Known → Known → Result (Unit {0}) Failure → Type 0
StocksRead storage folder (Ok script) before after result = StocksIn storage folder script.1 before after result
StocksRead storage folder (Err refusal) before after result = (result ≡ Err refusal) × (after ≡ before)

-- the script that bytes are, or its first fault
abbrev pub IsScriptOfBytes : List ℕ → Result Script Failure → Type 0
IsScriptOfBytes bytes (Ok script) = script_of_bytes bytes ≡ Ok script
IsScriptOfBytes bytes (Err refusal) = IsUnreadScript bytes refusal

-- rule: Packages of a posted script
-- the same of a script's bytes, which are read only if a folder is named
abbrev pub StocksBytes : Storage → Option (List ℕ) → List ℕ → Known → Known → Result (Unit {0}) Failure → Type 0
StocksBytes storage None bytes before after result = (result ≡ Ok tt) × (after ≡ before)
StocksBytes storage (Some folder) bytes before after result =
    (read : Result Script Failure) × IsScriptOfBytes bytes read × StocksRead storage folder read before after result
