-- What a script would make of an edition; this project's profile.
use Rattle.std.specs.Prelude.{◌≡◌, ◌⊎◌, ⊤, ℕ, Bool, true, false, codes, decimal, List, ◌++◌, Result, Ok, Err}
use Rattle.streams.specs.Reading.{IsLonger, IsWhole}
use Rattle.streams.specs.Streams.{Known}
use Rattle.catalogue.specs.Histories.{History}
use Rattle.service_desks.specs.declared.services.service.Service.{Service}
use Rattle.profile_toml.specs.Reading.{script_of_bytes}
use Rattle.package_files.specs.Storages.{Storage}
use Rattle.omaha_arguments.specs.declared.command.Publication.{Publication}
use Rattle.update_client.specs.declared.posting.Reply.{Reply}
use Rattle.omaha_commands.specs.Applying.{Applies}
use Rattle.omaha_commands.specs.Asking.{FailsAsked, HasEdition}
use Rattle.omaha_commands.specs.Operating.{Listeners, is_input}
use Rattle.omaha_commands.specs.Posting.{Posts}
use Rattle.profiles.specs.Profiles.{Files, IsMade, service_of_bytes}
use Rattle.profiles.specs.Printing.{Prints}
use Rattle.omaha_commands.specs.ScriptFiles.{IsScriptOf, Script, max_script}
use Rattle.omaha_commands.specs.Stocking.{Stocks}
use Rattle.profiles.specs.Streams.{Streams}
use Rattle.failures.specs.declared.failure.Failure.{Failure}
use Rattle.failures.specs.declared.failure.Failure.TheVariants as failure

-- a server's dump makes this service, or why there is none
abbrev pub IsPublished : Listeners → List ℕ → Result Service Failure → Type 0
IsPublished listeners to made =
    FailsAsked to made
    ⊎ ((reply : Reply) × listeners to (codes "dump") reply × (reply.status ≡ 200)
    × IsMade (service_of_bytes reply.body.items) made)

-- the script is valid for the edition of a number if it makes another one
abbrev pub JudgedBy : ℕ → Result History Failure → Result ℕ Failure → Type 0
JudgedBy number (Ok after) judged = judged ≡ Ok number
JudgedBy number (Err refusal) judged = judged ≡ Err refusal

-- the number of the edition that a script is valid for, by the catalogue of a service
abbrev pub JudgesBy : History → ℕ → Script → Result ℕ Failure → Type 0
JudgesBy history number script judged =
    (applied : Result History Failure) × Applies history number script applied × JudgedBy number applied judged

-- the same by what was made of a dump
abbrev pub JudgesMade : ℕ → Script → Result Service Failure → Result ℕ Failure → Type 0
JudgesMade number script (Ok service) judged = JudgesBy service.edition number script judged
JudgesMade number script (Err refusal) judged = judged ≡ Err refusal

-- the same by the dump of a server whose edition has that number
abbrev pub JudgesFor : Listeners → List ℕ → ℕ → Script → Result ℕ Failure → Type 0
JudgesFor listeners to number script judged =
    (made : Result Service Failure) × IsPublished listeners to made × JudgesMade number script made judged

-- rule: Script checked by a server
-- the number of the server's edition that a script is valid for: the number is asked for, then the dump
abbrev pub Judges : Listeners → List ℕ → Script → Result ℕ Failure → Type 0
Judges listeners to script judged =
    FailsAsked to judged
    ⊎ ((number : ℕ) × HasEdition listeners to number × JudgesFor listeners to number script judged)

-- the script of the standard input; its first fault; or it can't be read, or has too many bytes
abbrev pub IsScriptIn : Known → Known → Result Script Failure → Type 0
IsScriptIn old new (Ok script) =
    (bytes : List ℕ) × IsWhole old max_script bytes × (script_of_bytes bytes ≡ Ok script)
IsScriptIn old new (Err (failure.Script fault)) =
    (bytes : List ℕ) × IsWhole old max_script bytes × (script_of_bytes bytes ≡ Err fault)
IsScriptIn old new (Err failure.Read) = new.failed ≡ true
IsScriptIn old new (Err failure.TooLong) = IsLonger old max_script
IsScriptIn old new (Err failure.Memory) = ⊤
IsScriptIn old new (Err refusal) = ⊥

-- the script of the standard input; or of a file, and nothing of the standard input
abbrev pub IsScriptBy : Bool → Files → List ℕ → Known → Known → Result Script Failure → Type 0
IsScriptBy true files path old new read = IsScriptIn old new read
IsScriptBy false files path old new read = IsScriptOf files path read × (new ≡ old)

-- what is printed of a valid script
abbrev pub valid_line : ℕ → List ℕ
valid_line number = codes "valid for edition " ++ decimal number ++ codes "\n"

-- it is printed, unless memory runs out
abbrev pub PrintsValid : ℕ → Streams → Streams → Result (Unit {0}) Failure → Type 0
PrintsValid number old new result =
    ((result ≡ Err failure.Memory) × (new ≡ old)) ⊎ Prints (Ok (valid_line number)) old new result

-- a valid script's line is printed, or nothing
abbrev pub PrintsJudged : Result ℕ Failure → Streams → Streams → Result (Unit {0}) Failure → Type 0
PrintsJudged (Ok number) old new result = PrintsValid number old new result
PrintsJudged (Err refusal) old new result = (result ≡ Err refusal) × (new ≡ old)

-- a script is judged by what a server has published, and the edition that it is valid for is printed
abbrev pub PrintsJudgement : Listeners → List ℕ → Script → Streams → Streams → Result (Unit {0}) Failure → Type 0
PrintsJudgement listeners to script old new result =
    (judged : Result ℕ Failure) × Judges listeners to script judged × PrintsJudged judged old new result

-- a script whose packages agree is judged
abbrev pub JudgesIf : Listeners → List ℕ → Script → Result (Unit {0}) Failure → Streams → Streams → Result (Unit {0}) Failure → Type 0
JudgesIf listeners to script (Ok done) old new result = PrintsJudgement listeners to script old new result
JudgesIf listeners to script (Err refusal) old new result = (result ≡ Err refusal) × (new ≡ old)

-- the packages of a script are compared, if a folder is named, and then it is judged
pub record JudgesStocked (storage : Storage) (listeners : Listeners) (asked : Publication) (script : Script) (old new : Streams) (result : Result (Unit {0}) Failure) : Type 0 where
  pub stocked : Result (Unit {0}) Failure
  pub between : Known
  pub is : Stocks storage asked.packages script.1 old.output between stocked
  pub judged : JudgesIf listeners asked.to script stocked (record { input = old.input; output = between }) new result

-- what was read is judged; or nothing is done
abbrev pub ChecksRead : Storage → Listeners → Publication → Result Script Failure → Streams → Streams → Result (Unit {0}) Failure → Type 0
ChecksRead storage listeners asked (Ok script) old new result = JudgesStocked storage listeners asked script old new result
ChecksRead storage listeners asked (Err refusal) old new result = (result ≡ Err refusal) × (new ≡ old)

-- a script is read, judged by what a server has published, and not published
pub record Checks (files : Files) (storage : Storage) (listeners : Listeners) (asked : Publication) (old new : Streams) (result : Result (Unit {0}) Failure) : Type 0 where
  pub read : Result Script Failure
  pub script : IsScriptBy (is_input asked.script) files asked.script old.input new.input read
  pub follows : ChecksRead storage listeners asked read (record { input = new.input; output = old.output }) new result

-- a script is checked, or posted
abbrev pub PublishesIf : Bool → Files → Storage → Listeners → Bool → Publication → Streams → Streams → Result (Unit {0}) Failure → Type 0
PublishesIf true files storage listeners shown asked old new result = Checks files storage listeners asked old new result
PublishesIf false files storage listeners shown asked old new result = Posts files storage listeners shown asked old new result

-- what `publish` does
abbrev pub Publishes : Files → Storage → Listeners → Bool → Publication → Streams → Streams → Result (Unit {0}) Failure → Type 0
Publishes files storage listeners shown asked old new result =
    PublishesIf asked.check files storage listeners shown asked old new result
