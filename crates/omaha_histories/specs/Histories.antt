-- What a server begins with, by its profile or by the records of its history, and what is printed of records; this project's
-- profile.
use Rattle.std.specs.Prelude.{◌≡◌, ◌≤◌, ◌<◌, ◌+◌, ◌-◌, ◌^◌, ◌⊎◌, ⊤, ℕ, min, List, [], ◌∷◌, Option, Some, None, Result, Ok, Err}
use Rattle.kept_records.specs.Keeping.{record_of}
use Rattle.kept_records.specs.declared.fault.AppendFault.{AppendFault}
use Rattle.kept_records.specs.declared.fault.Cause.{Cause}
use Rattle.kept_records.specs.declared.fault.OpenFault.{OpenFault}
use Rattle.kept_records.specs.declared.fault.OpenFault.TheVariants as opening
use Rattle.kept_records.specs.declared.record.Kind.TheVariants.{Profile}
use Rattle.kept_records.specs.declared.record.Record.{Record}
use Rattle.omaha_arguments.specs.declared.command.HistoryAction.{HistoryAction}
use Rattle.omaha_arguments.specs.declared.command.HistoryAction.TheVariants as action
use Rattle.omaha_arguments.specs.declared.command.HistoryAsked.{HistoryAsked}
use Rattle.omaha_histories.specs.Exporting.{IsExport}
use Rattle.omaha_histories.specs.Listing.{listing}
use Rattle.omaha_histories.specs.Numbering.{AreUpTo, editions_in}
use Rattle.omaha_histories.specs.Restarting.{IsFaultOf, LeadTo}
use Rattle.omaha_histories.specs.declared.restarts.fault.RestoreError.{RestoreError}
use Rattle.omaha_histories.specs.declared.restarts.fault.RestoreError.TheVariants as restore
use Rattle.service_desks.specs.declared.services.service.Service.{Service}
use Rattle.streams.specs.Reading.{IsWhole}
use Rattle.profiles.specs.Profiles.{Files, IsServed, max_profile}
use Rattle.profiles.specs.Printing.{Prints}
use Rattle.profiles.specs.Streams.{Streams}
use Rattle.failures.specs.declared.failure.Failure.{Failure}
use Rattle.failures.specs.declared.failure.Failure.TheVariants as failure
use Rattle.failures.specs.declared.history_fault.HistoryFault.{HistoryFault}
use Rattle.failures.specs.declared.history_fault.HistoryFault.TheVariants as reason

-- the failure of the history at a path, for this reason; naming the path takes memory
abbrev pub IsHistoryFailure : List ℕ → HistoryFault → Failure → Type 0
IsHistoryFailure path fault refusal = (refusal ≡ failure.History path fault) ⊎ (refusal ≡ failure.Memory)

-- the failure of a history whose records, of which the first has this number, lead to nothing for this reason
abbrev pub IsRestoreFailure : List ℕ → ℕ → RestoreError → Failure → Type 0
IsRestoreFailure path first restore.Empty refusal = IsHistoryFailure path reason.Empty refusal
IsRestoreFailure path first (restore.Record index fault) refusal =
    IsHistoryFailure path (reason.Record (min (first + index) (2 ^ 64 - 1)) fault) refusal
IsRestoreFailure path first restore.Memory refusal = refusal ≡ failure.Memory

-- records, of which the first has this number, lead to nothing, and the failure has the reason
abbrev pub LeadNowhere : List ℕ → ℕ → List Record → Failure → Type 0
LeadNowhere path first records refusal =
    (error : RestoreError) × IsFaultOf records error × IsRestoreFailure path first error refusal

-- the history at a path can't be opened
abbrev pub IsUnopened : List ℕ → Failure → Type 0
IsUnopened path refusal = (fault : OpenFault) × IsHistoryFailure path (reason.Open fault) refusal

-- a record can't be appended, or the records not be replaced
abbrev pub IsUnkept : List ℕ → Failure → Type 0
IsUnkept path refusal = (fault : AppendFault) × IsHistoryFailure path (reason.Append fault) refusal

-- which records may be found at a path, of which the first has this number
abbrev pub Stored : Type 1
Stored = List ℕ → ℕ → List Record → Type 0

-- what a server begins with: its service, the number of the first record, and the records
pub record Beginning : Type 0 where
  pub service : Service
  pub first : ℕ
  pub records : List Record

-- the records lead to the service
abbrev pub LeadToService : List Record → Service → Type 0
LeadToService records service = LeadTo records (record { history = service.edition; mirrors = service.mirrors })

-- the first record has these bytes
abbrev pub HasFirst : List Record → List ℕ → Type 0
HasFirst [] bytes = ⊥
HasFirst (first ∷ others) bytes = first.bytes ≡ bytes

-- the first record has the bytes of the profile's file, if one is named
abbrev pub BeginWith : Files → Option (List ℕ) → List Record → Type 0
BeginWith files None records = ⊤
BeginWith files (Some path) records =
    (bytes : List ℕ) × IsWhole (files path) max_profile bytes × HasFirst records bytes

-- the only record is the profile that is named
abbrev pub IsFirst : Files → Option (List ℕ) → List Record → Type 0
IsFirst files None records = ⊥
IsFirst files (Some path) records =
    (bytes : List ℕ) × IsWhole (files path) max_profile bytes × (records ≡ record_of Profile bytes ∷ [])

-- a server begins with the records that were found; if there were none, with the profile that is named
abbrev pub AreBegun : Files → Option (List ℕ) → List Record → List Record → Type 0
AreBegun files profile found records =
    ((found ≡ []) × IsFirst files profile records) ⊎ ((records ≡ found) × BeginWith files profile records)

-- so by the records that were found at a path, of which the first has this number
abbrev pub AreBegunAt : Stored → Files → List ℕ → Option (List ℕ) → ℕ → List Record → Type 0
AreBegunAt stored files path profile first records =
    (found : List Record) × stored path first found × AreBegun files profile found records

-- rule: Service of a history
-- without a history the service is the profile's, and there are no records; with one there are records that lead to the
-- service: those that were found at its path, or the profile
abbrev pub IsBeginning : Files → Stored → Option (List ℕ) → Option (List ℕ) → Beginning → Type 0
IsBeginning files stored None profile begins =
    IsServed files profile (Ok begins.service) × (begins.first ≡ 1) × (begins.records ≡ [])
IsBeginning files stored (Some path) profile begins =
    LeadToService begins.records begins.service × AreBegunAt stored files path profile begins.first begins.records

-- why the profile isn't kept as the first record: it can't be appended, or another server's first record can't be read or is
-- another profile
abbrev pub IsNotFirst : List ℕ → Failure → Type 0
IsNotFirst path refusal =
    IsUnkept path refusal
    ⊎ ((cause : Cause) × IsHistoryFailure path (reason.Open (opening.Failed cause)) refusal)
    ⊎ IsHistoryFailure path reason.OtherProfile refusal

-- why a history without records begins nothing: no profile is named, or it leads to no service, or it isn't kept
abbrev pub BeginsNothing : Files → List ℕ → Option (List ℕ) → Failure → Type 0
BeginsNothing files path None refusal = IsHistoryFailure path reason.Empty refusal
BeginsNothing files path (Some profile) refusal = IsServed files (Some profile) (Err refusal) ⊎ IsNotFirst path refusal

-- records don't begin with the profile that is named: it can't be used, or isn't the first one
abbrev pub BeginOtherwise : Files → List ℕ → Option (List ℕ) → List Record → Failure → Type 0
BeginOtherwise files path None records refusal = ⊥
BeginOtherwise files path (Some profile) records refusal =
    IsServed files (Some profile) (Err refusal)
    ⊎ ((bytes : List ℕ) × IsWhole (files profile) max_profile bytes × (HasFirst records bytes → ⊥)
    × IsHistoryFailure path reason.OtherProfile refusal)

-- why the records that were found, of which the first has this number, begin nothing: there are none, and the profile begins
-- nothing; or they don't begin with it, or lead to nothing
abbrev pub AreNoBeginning : Files → List ℕ → Option (List ℕ) → ℕ → List Record → Failure → Type 0
AreNoBeginning files path profile first found refusal =
    ((found ≡ []) × BeginsNothing files path profile refusal)
    ⊎ BeginOtherwise files path profile found refusal
    ⊎ LeadNowhere path first found refusal

-- why there is no service: because of the profile; or because of the history, which can't be opened or begins nothing
abbrev pub IsNoBeginning : Files → Stored → Option (List ℕ) → Option (List ℕ) → Failure → Type 0
IsNoBeginning files stored None profile refusal = IsServed files profile (Err refusal)
IsNoBeginning files stored (Some path) profile refusal =
    IsUnopened path refusal
    ⊎ ((first : ℕ) × (found : List Record) × stored path first found × AreNoBeginning files path profile first found refusal)

-- what a server begins with, or why it doesn't
abbrev pub IsBegun : Files → Stored → Option (List ℕ) → Option (List ℕ) → Result Beginning Failure → Type 0
IsBegun files stored history profile (Ok begins) = IsBeginning files stored history profile begins
IsBegun files stored history profile (Err refusal) = IsNoBeginning files stored history profile refusal

-- rule: Exported edition
-- the records make the edition of a number, where the first one is that of its own number, and some of them are up to it
pub record AreOfEdition (first edition : ℕ) (records some : List Record) : Type 0 where
  pub after : first ≤ edition
  pub before : edition < first + editions_in records
  pub until : AreUpTo (edition - first + 1) records some

-- the records make no edition of a number
abbrev pub LackEdition : ℕ → ℕ → List Record → Type 0
LackEdition first edition records = (edition < first) ⊎ (first + editions_in records ≤ edition)

-- what is printed of records, of which the first has this number: a line for each; the profile that they lead to, or that
-- those up to an edition lead to; or nothing
abbrev pub IsFoundOf : ℕ → List Record → HistoryAction → List ℕ → Type 0
IsFoundOf first records action.List text = text ≡ listing first records
IsFoundOf first records (action.Export None) text = IsExport records text
IsFoundOf first records (action.Export (Some edition)) text =
    (some : List Record) × AreOfEdition first edition records some × IsExport some text
IsFoundOf first records action.Compact text = text ≡ []

-- rule: Compacted history
-- one record is left: the profile that records lead to, with the number of their last edition
abbrev pub IsShortened : ℕ → List Record → ℕ → List Record → Type 0
IsShortened first records number left =
    (text : List ℕ) × IsExport records text × (left ≡ record_of Profile text ∷ [])
    × (number + 1 ≡ first + editions_in records)

-- why records aren't replaced: they lead to nothing, the last one's edition has no number from 1 to 2^53, or it can't be done
abbrev pub AreNotShortened : List ℕ → ℕ → List Record → Failure → Type 0
AreNotShortened path first records refusal =
    LeadNowhere path first records refusal
    ⊎ ((number : ℕ) × ((number < 1) ⊎ (2 ^ 53 < number)) × IsHistoryFailure path (reason.NoEdition number) refusal)
    ⊎ IsUnkept path refusal

-- why no edition of records is exported: they make none of its number, or those up to it lead to nothing
abbrev pub AreNotExported : List ℕ → ℕ → List Record → Option ℕ → Failure → Type 0
AreNotExported path first records None refusal = LeadNowhere path first records refusal
AreNotExported path first records (Some edition) refusal =
    (LackEdition first edition records × IsHistoryFailure path (reason.NoEdition edition) refusal)
    ⊎ ((some : List Record) × AreOfEdition first edition records some × LeadNowhere path first some refusal)

-- why nothing is printed of records
abbrev pub IsNotFoundOf : List ℕ → ℕ → List Record → HistoryAction → Failure → Type 0
IsNotFoundOf path first records action.List refusal = refusal ≡ failure.Memory
IsNotFoundOf path first records (action.Export edition) refusal = AreNotExported path first records edition refusal
IsNotFoundOf path first records action.Compact refusal = AreNotShortened path first records refusal

-- what is found of the history at a path; or why nothing is: it can't be opened, or because of its records
abbrev pub IsFoundIn : Stored → HistoryAsked → Result (List ℕ) Failure → Type 0
IsFoundIn stored asked (Ok text) =
    (first : ℕ) × (records : List Record) × stored asked.path first records × IsFoundOf first records asked.action text
IsFoundIn stored asked (Err refusal) =
    IsUnopened asked.path refusal
    ⊎ ((first : ℕ) × (records : List Record) × stored asked.path first records
    × IsNotFoundOf asked.path first records asked.action refusal)

-- what is found of a history is printed
pub record PrintsHistory (stored : Stored) (asked : HistoryAsked) (old new : Streams) (result : Result (Unit {0}) Failure) : Type 0 where
  pub found : Result (List ℕ) Failure
  pub is : IsFoundIn stored asked found
  pub printed : Prints found old new result
