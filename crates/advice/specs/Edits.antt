-- What is said of a rejected edit: a key with its value, by the edit and its fault, and what is asked of it; this
-- project's profile.
use Rattle.std.specs.Prelude.{ℕ, List, [], ◌∷◌, ◌++◌, codes, decimal, Option, Some, None}
use Rattle.std.specs.Map.{lookup}
use Rattle.std.specs.Str.{bytes_eq}
use Rattle.streams.specs.Strings.{shown_string}
use Rattle.catalogue.specs.declared.edit.Edit.{Edit}
use Rattle.catalogue.specs.declared.edit.Edit.TheVariants as edit
use Rattle.catalogue.specs.declared.fault.Fault.{Fault}
use Rattle.catalogue.specs.declared.fault.Fault.TheVariants as fault
use Rattle.advice.specs.declared.edits.Subject.{Subject}
use Rattle.advice.specs.declared.edits.Subject.TheVariants as subject

-- what an edit does, as a script says it
abbrev pub verb_of : Edit → List ℕ
verb_of (edit.AddApp e) = codes "add_app"
verb_of (edit.AddRelease e) = codes "add_release"
verb_of (edit.AddDiff e) = codes "add_diff"
verb_of (edit.SetStone e) = codes "set_stone"
verb_of (edit.SetWithdrawn e) = codes "set_withdrawn"
verb_of (edit.SetAudience e) = codes "set_audience"
verb_of (edit.SetFloor e) = codes "set_floor"
verb_of (edit.AddCohort e) = codes "add_cohort"
verb_of (edit.SetTarget e) = codes "set_target"
verb_of (edit.SetShare e) = codes "set_share"
verb_of (edit.SetRollback e) = codes "set_rollback"
verb_of (edit.SetOpen e) = codes "set_open"

-- the app of an edit
abbrev pub app_of : Edit → List ℕ
app_of (edit.AddApp e) = e.app
app_of (edit.AddRelease e) = e.app
app_of (edit.AddDiff e) = e.app
app_of (edit.SetStone e) = e.app
app_of (edit.SetWithdrawn e) = e.app
app_of (edit.SetAudience e) = e.app
app_of (edit.SetFloor e) = e.app
app_of (edit.AddCohort e) = e.app
app_of (edit.SetTarget e) = e.app
app_of (edit.SetShare e) = e.app
app_of (edit.SetRollback e) = e.app
app_of (edit.SetOpen e) = e.app

-- a key of an edit, and what it says of it and perhaps of a second one
pub record Said : Type 0 where
  pub key : List ℕ
  pub text : List ℕ

-- a key with its value
abbrev pub pair_string : List ℕ → List ℕ → List ℕ
pair_string key value = key ++ (codes " is " ++ shown_string value)

-- what is said of a key alone, of one with a string or a number, and of two
abbrev pub bare : List ℕ → Said
bare key = record { key = key; text = key }

abbrev pub one : List ℕ → List ℕ → Said
one key value = record { key = key; text = pair_string key value }

abbrev pub number : List ℕ → ℕ → Said
number key value = record { key = key; text = key ++ (codes " is " ++ decimal value) }

abbrev pub two : List ℕ → List ℕ → List ℕ → List ℕ → Said
two key value other worth =
    record { key = key; text = pair_string key value ++ (codes " and " ++ pair_string other worth) }

-- what a subject in memory says
abbrev pub said_of : Subject → Said
said_of (subject.Bare key) = bare key.now
said_of (subject.One key value) = one key.now value.now
said_of (subject.Number key value) = number key.now value
said_of (subject.Two key value other worth) = two key.now value.now other.now worth.now

-- the targets of a cohort that are set
abbrev pub targets_said : Option (List ℕ) → Option (List ℕ) → Said
targets_said None None = bare (codes "target")
targets_said (Some target) None = one (codes "target") target
targets_said None (Some held) = one (codes "held") held
targets_said (Some target) (Some held) = two (codes "target") target (codes "held") held

-- the versions, the hash, the size, the name, the cohort and the share of an edit
abbrev pub versions_said : Edit → Said
versions_said (edit.AddRelease e) = one (codes "version") e.version
versions_said (edit.AddDiff e) = two (codes "from") e.from (codes "to") e.to
versions_said (edit.SetStone e) = one (codes "version") e.version
versions_said (edit.SetWithdrawn e) = one (codes "version") e.version
versions_said (edit.SetAudience e) = one (codes "version") e.version
versions_said (edit.SetFloor e) = two (codes "version") e.version (codes "floor") e.floor
versions_said (edit.SetTarget e) = targets_said e.target e.held
versions_said other = bare (codes "do")

-- the versions of an edit that must be releases
abbrev pub releases_said : Edit → Said
releases_said (edit.SetFloor e) = one (codes "version") e.version
releases_said other = versions_said other

abbrev pub hash_said : Edit → Said
hash_said (edit.AddRelease e) = one (codes "sha256") e.sha256
hash_said (edit.AddDiff e) = one (codes "sha256") e.sha256
hash_said other = bare (codes "do")

abbrev pub size_said : Edit → Said
size_said (edit.AddRelease e) = number (codes "size") e.size
size_said (edit.AddDiff e) = number (codes "size") e.size
size_said other = bare (codes "do")

abbrev pub name_said : Edit → Said
name_said (edit.AddApp e) = one (codes "default") e.default
name_said (edit.AddCohort e) = one (codes "cohort") e.cohort
name_said (edit.AddRelease e) = one (codes "name") e.name
name_said (edit.AddDiff e) = one (codes "name") e.name
name_said other = bare (codes "do")

abbrev pub cohort_said : Edit → Said
cohort_said (edit.AddCohort e) = one (codes "cohort") e.cohort
cohort_said (edit.SetTarget e) = one (codes "cohort") e.cohort
cohort_said (edit.SetShare e) = one (codes "cohort") e.cohort
cohort_said (edit.SetRollback e) = one (codes "cohort") e.cohort
cohort_said (edit.SetOpen e) = one (codes "cohort") e.cohort
cohort_said (edit.SetAudience e) = bare (codes "cohorts")
cohort_said other = bare (codes "do")

abbrev pub share_said : Edit → Said
share_said (edit.SetShare e) = number (codes "share") e.share
share_said other = bare (codes "do")

-- rule: Subject of a rejected edit
-- the key of an edit that its fault is about, with its value
abbrev pub subject_of : Edit → Fault → Said
subject_of edit fault.UnknownApp = one (codes "app") (app_of edit)
subject_of edit fault.AppExists = one (codes "app") (app_of edit)
subject_of edit fault.BadAppId = one (codes "app") (app_of edit)
subject_of edit fault.BadVersion = versions_said edit
subject_of edit fault.ReleaseExists = versions_said edit
subject_of edit fault.HashTaken = hash_said edit
subject_of edit fault.BadHash = hash_said edit
subject_of edit fault.BadSize = size_said edit
subject_of edit fault.BadName = name_said edit
subject_of edit fault.NameTaken = name_said edit
subject_of edit fault.UnknownRelease = releases_said edit
subject_of edit fault.DiffExists = versions_said edit
subject_of edit fault.DiffBackward = versions_said edit
subject_of edit fault.UnknownCohort = cohort_said edit
subject_of edit fault.CohortExists = cohort_said edit
subject_of edit fault.BadShare = share_said edit
subject_of edit fault.Limit = bare (codes "do")

-- rule: Remedy of a rejected edit
-- what is asked of such a value, and the code that explains it
abbrev pub remedy_of : Fault → List ℕ
remedy_of fault.UnknownApp = codes "no app has this identifier (omaha explain C1)"
remedy_of fault.AppExists = codes "an app has this identifier already (omaha explain C2)"
remedy_of fault.BadAppId = codes "an identifier is 1 to 256 visible ASCII characters (omaha explain C3)"
remedy_of fault.BadVersion = codes "a version is 1 to 4 numbers with dots, without leading zeros, each below 4294967296 (omaha explain C4)"
remedy_of fault.ReleaseExists = codes "the app has this release already (omaha explain C5)"
remedy_of fault.HashTaken = codes "another release of the app has this package (omaha explain C6)"
remedy_of fault.BadHash = codes "a hash is 64 digits 0-9a-f (omaha explain C7)"
remedy_of fault.BadSize = codes "a size is 1 to 1099511627776 bytes (omaha explain C8)"
remedy_of fault.BadName = codes "a package's name is 1 to 128 of A-Z a-z 0-9 . _ - without a leading dot, a cohort's 1 to 32 of a-z 0-9 - (omaha explain C9)"
remedy_of fault.NameTaken = codes "another package has this name (omaha explain C10)"
remedy_of fault.UnknownRelease = codes "the app must have each release that is named: omaha dump lists them (omaha explain C11)"
remedy_of fault.DiffExists = codes "the app has this differential already (omaha explain C12)"
remedy_of fault.DiffBackward = codes "a differential leads to a higher version (omaha explain C13)"
remedy_of fault.UnknownCohort = codes "the app has no such cohort: omaha dump lists them (omaha explain C14)"
remedy_of fault.CohortExists = codes "the app has this cohort already (omaha explain C15)"
remedy_of fault.BadShare = codes "a share is at most 1000 (omaha explain C16)"
remedy_of fault.Limit = codes "there are at most 64 apps, and in one app 512 releases, 16384 diffs and 32 cohorts (omaha explain C17)"

-- the fault of a code that a server printed
abbrev pub faults : List (List ℕ × Fault)
faults =
    (codes "C1", fault.UnknownApp) ∷ (codes "C2", fault.AppExists) ∷ (codes "C3", fault.BadAppId)
    ∷ (codes "C4", fault.BadVersion) ∷ (codes "C5", fault.ReleaseExists) ∷ (codes "C6", fault.HashTaken)
    ∷ (codes "C7", fault.BadHash) ∷ (codes "C8", fault.BadSize) ∷ (codes "C9", fault.BadName)
    ∷ (codes "C10", fault.NameTaken) ∷ (codes "C11", fault.UnknownRelease) ∷ (codes "C12", fault.DiffExists)
    ∷ (codes "C13", fault.DiffBackward) ∷ (codes "C14", fault.UnknownCohort) ∷ (codes "C15", fault.CohortExists)
    ∷ (codes "C16", fault.BadShare) ∷ (codes "C17", fault.Limit) ∷ []

abbrev pub fault_named : List ℕ → Option Fault
fault_named code = lookup (bytes_eq code) faults
