-- What `check` finds and prints of a profile's packages; this project's profile.
use Rattle.std.specs.Prelude.{◌≡◌, ◌⊎◌, ℕ, List, [], ◌∷◌, length, Some, Result, Ok, Err}
use Rattle.std.specs.Io.KnownBytes.{Appends}
use Rattle.streams.specs.Streams.{Known}
use Rattle.streams.specs.Writing.{Breaks}
use Rattle.editions.specs.Editions.{content_of}
use Rattle.service_desks.specs.declared.services.service.Service.{Service}
use Rattle.package_files.specs.Findings.{AreFindings}
use Rattle.package_files.specs.declared.finding.Finding.{Finding}
use Rattle.package_files.specs.FindingLines.{findings_string}
use Rattle.package_files.specs.Storages.{Storage}
use Rattle.catalogue.specs.Lookups.{packages_of}
use Rattle.omaha_commands.specs.Summaries.{summary_of}
use Rattle.omaha_arguments.specs.declared.command.Comparison.{Comparison}
use Rattle.profiles.specs.Profiles.{Files, IsServed}
use Rattle.profiles.specs.Streams.{Streams}
use Rattle.failures.specs.declared.failure.Failure.{Failure}
use Rattle.failures.specs.declared.failure.Failure.TheVariants as failure

-- what is printed of a service's packages: its summary if there is no finding, else the findings
abbrev pub report_of : Service → List Finding → List ℕ
report_of service [] = summary_of (length service.edition) (content_of service.edition)
report_of service (finding ∷ findings) = findings_string (finding ∷ findings)

-- how the command ends then
abbrev pub end_of : List Finding → Result (Unit {0}) Failure
end_of [] = Ok tt
end_of (finding ∷ findings) = Err (failure.Packages (length (finding ∷ findings)))

-- the report is printed and the command ends so; or the writer failed within the report
abbrev pub IsReportedOn : Service → List Finding → Known → Known → Result (Unit {0}) Failure → Type 0
IsReportedOn service findings before after result =
    ((result ≡ end_of findings) × Appends before.bytes after.bytes (report_of service findings))
    ⊎ ((result ≡ Err failure.Write) × Breaks before after (report_of service findings))

-- a service's packages are compared with the files of a folder, and what is found is reported; or memory ran out
abbrev pub IsCompared : Storage → List ℕ → Service → Known → Known → Result (Unit {0}) Failure → Type 0
IsCompared storage folder service before after result =
    ((findings : List Finding)
    × AreFindings (storage.opens folder) (storage.reads folder) (packages_of (content_of service.edition)) findings
    × IsReportedOn service findings before after result)
    ⊎ ((result ≡ Err failure.Memory) × (after ≡ before))

-- what follows from what was made of the profile
abbrev pub ComparesBy : Storage → List ℕ → Result Service Failure → Streams → Streams → Result (Unit {0}) Failure → Type 0
ComparesBy storage folder (Ok service) old new result =
    IsCompared storage folder service old.output new.output result × (new.input ≡ old.input)
ComparesBy storage folder (Err refusal) old new result = (result ≡ Err refusal) × (new ≡ old)

-- rule: Report on packages
-- the profile is read first, and its packages are compared with the files of the folder
pub record Compares (files : Files) (storage : Storage) (asked : Comparison) (old new : Streams) (result : Result (Unit {0}) Failure) : Type 0 where
  pub made : Result Service Failure
  pub served : IsServed files (Some asked.profile) made
  pub follows : ComparesBy storage asked.packages made old new result
