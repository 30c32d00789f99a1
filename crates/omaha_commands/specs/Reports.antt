-- What the commands that report on a profile find and print; this project's profile.
use Rattle.std.specs.Prelude.{◌≡◌, ◌⊎◌, ℕ, List, ◌++◌, codes, length, Some, Result, Ok, Err}
use Rattle.streams.specs.Reading.{IsWhole}
use Rattle.catalogue.specs.declared.content.App.{App}
use Rattle.editions.specs.Editions.{content_of}
use Rattle.catalogue.specs.Histories.{History}
use Rattle.reviews.specs.Reviews.{AreReviews}
use Rattle.review_reports.specs.Warnings.{warnings_string}
use Rattle.reviews.specs.declared.review.TrackReview.{TrackReview}
use Rattle.service_desks.specs.declared.services.service.Service.{Service}
use Rattle.omaha_commands.specs.Certificates.{Certifies, Verifies}
use Rattle.omaha_commands.specs.Summaries.{summary_of}
use Rattle.certificates.specs.declared.fault.Fault.{Fault}
use Rattle.values.specs.declared.read_error.ReadError.{ReadError}
use Rattle.omaha_commands.specs.Applying.{Applies}
use Rattle.profiles.specs.Printing.{Prints}
use Rattle.profiles.specs.Profiles.{Files, IsServed, IsUnreadable, max_profile}
use Rattle.failures.specs.Rejections.{failure_of_certificate}
use Rattle.omaha_commands.specs.ScriptFiles.{IsScriptOf, Script as Written}
use Rattle.profiles.specs.Streams.{Streams}
use Rattle.omaha_arguments.specs.declared.command.Question.{Question}
use Rattle.omaha_arguments.specs.declared.command.Question.TheVariants.{Check, Warn, Script, Certify, Verify}
use Rattle.omaha_arguments.specs.declared.command.Report.{Report}
use Rattle.failures.specs.declared.failure.Failure.{Failure}
use Rattle.failures.specs.declared.failure.Failure.TheVariants as failure

-- what is printed of a valid certificate
abbrev pub certified_line : List ℕ
certified_line = codes "certified\n"

-- the failure is that of an error of a certificate, of which something holds
abbrev pub FailsAs : (ReadError Fault → Type 0) → Failure → Type 0
FailsAs holds refusal = (error : ReadError Fault) × (refusal ≡ failure_of_certificate error) × holds error

-- the file is read, and its bytes are found valid or not
abbrev pub IsVerified : Files → List App → List ℕ → Result (Unit {0}) (ReadError Fault) → Type 0
IsVerified files apps path found =
    (bytes : List ℕ) × IsWhole (files path) max_profile bytes × Verifies apps bytes found

-- the warnings of a content, by the reviews of its tracks
abbrev pub AreWarnings : List App → List ℕ → Type 0
AreWarnings apps text = (reviews : List TrackReview) × AreReviews apps reviews × (text ≡ warnings_string apps reviews)

-- rule: Check with warnings
-- the summary of an edition, and its warnings
abbrev pub IsWarned : History → List ℕ → Type 0
IsWarned history text =
    (warnings : List ℕ) × AreWarnings (content_of history) warnings
    × (text ≡ summary_of (length history) (content_of history) ++ warnings)

-- the summary of the edition that was made, unless memory runs out
abbrev pub IsSummary : Result History Failure → Result (List ℕ) Failure → Type 0
IsSummary (Ok after) (Ok text) = text ≡ summary_of (length after) (content_of after)
IsSummary (Ok after) (Err refusal) = refusal ≡ failure.Memory
IsSummary (Err refusal) found = found ≡ Err refusal

-- what follows from the script that was read: what it makes of an edition is summarized
abbrev pub SummarizesBy : History → Result Written Failure → Result (List ℕ) Failure → Type 0
SummarizesBy history (Ok script) found =
    (applied : Result History Failure) × Applies history (length history) script applied × IsSummary applied found
SummarizesBy history (Err refusal) found = found ≡ Err refusal

-- rule: Check with a script
-- the script of a file is read, and what it makes of an edition is summarized
abbrev pub SummarizesAfter : Files → History → List ℕ → Result (List ℕ) Failure → Type 0
SummarizesAfter files history path found =
    (read : Result Written Failure) × IsScriptOf files path read × SummarizesBy history read found

-- rule: Report on a profile
-- what is found for a question about a service's edition: its summary, perhaps with warnings; that of the edition that a
-- script makes of it; the certificate of the named track; or that the certificate in the file is valid. Or why that is not found.
abbrev pub Finds : Files → Service → Question → Result (List ℕ) Failure → Type 0
Finds files service Check (Ok text) = text ≡ summary_of (length service.edition) (content_of service.edition)
Finds files service Check (Err refusal) = refusal ≡ failure.Memory
Finds files service Warn (Ok text) = IsWarned service.edition text
Finds files service Warn (Err refusal) = refusal ≡ failure.Memory
Finds files service (Script path) found = SummarizesAfter files service.edition path found
Finds files service (Certify names) (Ok text) = Certifies (content_of service.edition) names (Ok text)
Finds files service (Certify names) (Err refusal) =
    FailsAs (λ error. Certifies (content_of service.edition) names (Err error)) refusal
Finds files service (Verify path) (Ok text) =
    IsVerified files (content_of service.edition) path (Ok tt) × (text ≡ certified_line)
Finds files service (Verify path) (Err refusal) =
    ((refusal ≡ failure.File path) × IsUnreadable (files path))
    ⊎ (refusal ≡ failure.Memory)
    ⊎ FailsAs (λ error. IsVerified files (content_of service.edition) path (Err error)) refusal

-- what follows from what was made of the profile: what is found, or the same failure
abbrev pub IsFoundBy : Files → Question → Result Service Failure → Result (List ℕ) Failure → Type 0
IsFoundBy files question (Ok service) found = Finds files service question found
IsFoundBy files question (Err refusal) found = found ≡ Err refusal

-- the profile is read first, and what follows from it is found
pub record IsReported (files : Files) (report : Report) (found : Result (List ℕ) Failure) : Type 0 where
  pub made : Result Service Failure
  pub served : IsServed files (Some report.profile) made
  pub follows : IsFoundBy files report.question made found

-- a report is found, and printed
pub record Reports (files : Files) (report : Report) (old new : Streams) (result : Result (Unit {0}) Failure) : Type 0 where
  pub found : Result (List ℕ) Failure
  pub is : IsReported files report found
  pub printed : Prints found old new result
