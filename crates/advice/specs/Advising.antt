-- What is said of a failure after its line: the value, its place, and what to do; this project's profile.
use Rattle.std.specs.Prelude.{◌≡◌, ◌⊎◌, ℕ, List, [], codes, Option, Some, None, Ok, Err}
use Rattle.streams.specs.Streams.{Known}
use Rattle.streams.specs.Reading.{IsWhole}
use Rattle.catalogue.specs.Batches.{outcome}
use Rattle.catalogue.specs.declared.edit.Edit.{Edit}
use Rattle.catalogue.specs.declared.fault.Refused.{Refused}
use Rattle.omaha_arguments.specs.declared.command.Command.{Command}
use Rattle.failures.specs.Failures.{failure_string}
use Rattle.failures.specs.declared.failure.Failure.{Failure}
use Rattle.failures.specs.declared.failure.Failure.TheVariants as failure
use Rattle.advice.specs.Documents.{edits_in, max_file}
use Rattle.advice.specs.Looks.{IsAddressAdvice, IsLook, IsOddLook, IsServerAdvice, Sights}
use Rattle.advice.specs.Replies.{IsPathSaid, IsReplySaid, explained}
use Rattle.advice.specs.Sources.{aim_of, file_aim, history_aim, is_given_twice, packages_path, profile_path, script_path, server_of}
use Rattle.advice.specs.declared.documents.Notice.TheVariants as notice
use Rattle.advice.specs.declared.looks.Aim.TheVariants as aim
use Rattle.advice.specs.declared.tables.Kind.TheVariants as kind
use Rattle.failures.specs.declared.history_fault.HistoryFault.{HistoryFault}
use Rattle.failures.specs.declared.history_fault.HistoryFault.TheVariants as history_fault
use Rattle.kept_records.specs.declared.fault.OpenFault.TheVariants as open_fault
use Rattle.update_client.specs.declared.fault.Fault.{Fault as WalkFault}
use Rattle.update_client.specs.declared.fault.Fault.TheVariants as walk

-- the profile at a path has that rejected edit
abbrev pub IsRefused : (List ℕ → Known) → Option (List ℕ) → Refused → Type 0
IsRefused files None refused = ⊥
IsRefused files (Some path) refused =
    (bytes : List ℕ) × (edits : List Edit) × IsWhole (files path) max_file bytes
    × (edits_in kind.Profile bytes ≡ Ok edits) × (outcome edits [] ≡ Err refused)

-- rule: Place of a rejected edit
-- what is said of a rejected edit: of the command's profile if the command has no script, or if the profile's edits are
-- rejected so; else of its script
abbrev pub IsEditAdvice : (List ℕ → Known) → Command → Refused → List ℕ → Type 0
IsEditAdvice files command refused said =
    IsPathSaid files (script_path command) kind.Script (notice.Edit refused) said
    ⊎ ((script_path command ≡ None ⊎ IsRefused files (profile_path command) refused)
    × IsPathSaid files (profile_path command) kind.Profile (notice.Edit refused) said)

-- rule: Advice on a file
-- what a second look finds at a path, by what the command does there
abbrev pub IsFileAdvice : Sights → Command → List ℕ → List ℕ → Type 0
IsFileAdvice sights command path said = IsLook sights (file_aim command path) path (codes "file") said

-- rule: Advice on a walk
-- what is wrong with the address of a walk's server, or what a second look finds there, if the link failed
abbrev pub IsWalkAdvice : Sights → WalkFault → List ℕ → List ℕ → Type 0
IsWalkAdvice sights walk.Link address said = IsServerAdvice sights address said
IsWalkAdvice sights other address said = ⊥

-- rule: Advice on compared packages
-- what a second look finds in place of the folder of packages
abbrev pub IsFolderAdvice : Sights → Option (List ℕ) → List ℕ → Type 0
IsFolderAdvice sights None said = ⊥
IsFolderAdvice sights (Some path) said = IsOddLook sights aim.Enter path (codes "packages") said

-- rule: Advice on a history
-- what a second look finds at the path of a history that can't be opened
abbrev pub IsHistoryAdvice : Sights → Command → List ℕ → HistoryFault → List ℕ → Type 0
IsHistoryAdvice sights command path (history_fault.Open open_fault.Unopened) said =
    IsOddLook sights (history_aim command) path (codes "history") said
IsHistoryAdvice sights command path other said = ⊥

-- what is said of a failure by the files at hand or a second look
abbrev pub IsFound : (List ℕ → Known) → Sights → Command → Failure → List ℕ → Type 0
IsFound files sights command (failure.Profile fault) said =
    IsPathSaid files (profile_path command) kind.Profile (notice.Fault fault) said
IsFound files sights command (failure.Script fault) said =
    IsPathSaid files (script_path command) kind.Script (notice.Fault fault) said
IsFound files sights command (failure.Edit refused) said = IsEditAdvice files command refused said
IsFound files sights command (failure.Stale number) said =
    IsPathSaid files (script_path command) kind.Script (notice.Stale number) said
IsFound files sights command (failure.Net address) said =
    IsAddressAdvice sights (aim_of command) address (is_given_twice command address) said
IsFound files sights command (failure.File path) said = IsFileAdvice sights command path said
IsFound files sights command (failure.Walk fault) said = IsWalkAdvice sights fault (server_of command) said
IsFound files sights command (failure.Packages count) said = IsFolderAdvice sights (packages_path command) said
IsFound files sights command (failure.History path fault) said = IsHistoryAdvice sights command path fault said
IsFound files sights command (failure.Declined reply) said = IsReplySaid files command reply.body.items said
IsFound files sights command (failure.Code code) said = said ≡ codes "omaha explain lists all codes"
IsFound files sights command failure.NoPlace said = said ≡ codes "see omaha explain place"
IsFound files sights command other said = ⊥

-- rule: Advice on a failure
-- what is found of a failure, else where the first word of its line is explained
abbrev pub IsAdvice : (List ℕ → Known) → Sights → Command → Failure → List ℕ → Type 0
IsAdvice files sights command failure said =
    IsFound files sights command failure said ⊎ (explained (failure_string failure) ≡ Some said)
