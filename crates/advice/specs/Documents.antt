-- What is said of a fault of a profile or a script, by the bytes of its file; this project's profile.
use Rattle.std.specs.Prelude.{◌≡◌, ◌⊎◌, ℕ, false, List, ◌++◌, codes, decimal, Option, Some, None, Result, Ok, slice_get}
use Rattle.std.specs.Str.{is_utf8}
use Rattle.std.specs.Str.Lines.{lines}
use Rattle.streams.specs.Reading.{IsWhole}
use Rattle.streams.specs.Streams.{Known}
use Rattle.streams.specs.Strings.{shown_string}
use Rattle.catalogue.specs.declared.edit.Edit.{Edit}
use Rattle.catalogue.specs.declared.fault.Refused.{Refused}
use Rattle.profile_toml.specs.Fields.{◌>>=◌}
use Rattle.profile_toml.specs.Reading.{profile_of_bytes, script_of_bytes}
use Rattle.profile_toml.specs.declared.fault.ProfileFault.{ProfileFault}
use Rattle.profile_toml.specs.declared.fault.ProfileFault.TheVariants as fault
use Rattle.advice.specs.Edits.{Said, app_of, remedy_of, subject_of, verb_of}
use Rattle.advice.specs.Entries.{entry_advice, entry_line, place_string}
use Rattle.advice.specs.Faults.{IsTomlAdvice, count_advice, mirror_advice, utf8_advice}
use Rattle.advice.specs.Places.{Found}
use Rattle.advice.specs.Spots.{first_in, found_from}
use Rattle.advice.specs.declared.documents.Notice.{Notice}
use Rattle.advice.specs.declared.documents.Notice.TheVariants as notice
use Rattle.advice.specs.declared.documents.Trouble.{Trouble}
use Rattle.advice.specs.declared.documents.Trouble.TheVariants as trouble
use Rattle.advice.specs.declared.tables.Kind.{Kind}
use Rattle.advice.specs.declared.tables.Kind.TheVariants as kind

-- how many bytes of a file are read
abbrev pub max_file : ℕ
max_file = 268435456

-- rule: Advice on a fault
-- what is said of a fault, by the string of the file
abbrev pub IsFaultSaid : List ℕ → Kind → List ℕ → ProfileFault → List ℕ → Type 0
IsFaultSaid file of text fault.NotToml said = IsTomlAdvice file text said
IsFaultSaid file of text fault.BadSchema said =
    said ≡ entry_advice (codes "F2") file (lines text) of (codes "schema")
IsFaultSaid file of text (fault.BadEntry path) said = said ≡ entry_advice (codes "F3") file (lines text) of path
IsFaultSaid file of text (fault.BadMirror index) said = said ≡ mirror_advice file (lines text) index
IsFaultSaid file of text fault.TooManyEdits said = said ≡ count_advice file

-- an edit of a script by its index, with the line of a key; what is said of it, and what is asked
abbrev pub scripted_string : List ℕ → Option ℕ → ℕ → List ℕ → List ℕ → List ℕ
scripted_string file line index text remedy =
    place_string file line
    ++ (codes "edit[" ++ (decimal index ++ (codes "]." ++ (text ++ (codes ": " ++ remedy)))))

-- the line of a key of a table, else that of its header
abbrev pub line_at : List (List ℕ) → List ℕ → Option ℕ → Option ℕ
line_at lines key first = entry_line lines (record { kind = kind.Edit; first = first; key = key })

abbrev pub scripted_said : List ℕ → List (List ℕ) → ℕ → Said → List ℕ → List ℕ
scripted_said file lines index said remedy =
    scripted_string file (line_at lines said.key (first_in lines kind.Edit index 0)) index said.text remedy

-- an edit of a profile by its number, its verb and its app; what is said of it, and what is asked
abbrev pub numbered_string : List ℕ → ℕ → List ℕ → List ℕ → List ℕ → List ℕ → List ℕ
numbered_string file index verb app text remedy =
    place_string file None
    ++ (codes "edit " ++ (decimal index ++ (codes ", " ++ (verb ++ (codes " of app " ++ (shown_string app
    ++ (codes ": " ++ (text ++ (codes ": " ++ remedy)))))))))

-- rule: Advice on a rejected edit
-- what is said of a rejected edit: of a script by the line of its key, of a profile by what it does
abbrev pub edit_said : List ℕ → Kind → List (List ℕ) → Refused → Edit → List ℕ
edit_said file kind.Script lines refused edit =
    scripted_said file lines refused.index (subject_of edit refused.fault) (remedy_of refused.fault)
edit_said file other lines refused edit =
    numbered_string file refused.index (verb_of edit) (app_of edit) (subject_of edit refused.fault).text
    (remedy_of refused.fault)

-- the edits of a document
abbrev pub edits_in : Kind → List ℕ → Result (List Edit) ProfileFault
edits_in kind.Script text = script_of_bytes text >>= λ script. Ok script.1
edits_in other text = profile_of_bytes text >>= λ profile. Ok profile.0

-- the document has such an edit, of which that is said
abbrev pub IsEditSaid : List ℕ → Kind → List ℕ → Refused → List ℕ → Type 0
IsEditSaid file of text refused said =
    (edits : List Edit) × (edit : Edit) × (edits_in of text ≡ Ok edits) × (slice_get edits refused.index ≡ Some edit)
    × (said ≡ edit_said file of (lines text) refused edit)

-- the base of a script, by its line
abbrev pub base_string : List ℕ → ℕ → Option Found → List ℕ
base_string file number None =
    place_string file None
    ++ (codes "edition " ++ (decimal number ++ codes " is published: look at omaha dump, then set base to it (omaha explain stale)"))
base_string file number (Some found) =
    place_string file (Some found.line)
    ++ (codes "base is " ++ (shown_string found.value ++ (codes ", and edition " ++ (decimal number
    ++ codes " is published: look at omaha dump, then set base to it (omaha explain stale)"))))

-- rule: Advice on a stale script
-- the base of a script that is written for another edition than the one of that number
abbrev pub stale_said : List ℕ → List (List ℕ) → ℕ → List ℕ
stale_said file lines number = base_string file number (found_from lines (codes "base") (Some 0))

-- what is wrong, as it is owned
abbrev pub notice_of : Trouble → Notice
notice_of (trouble.Fault fault) = notice.Fault fault.now
notice_of (trouble.Edit refused) = notice.Edit refused
notice_of (trouble.Stale number) = notice.Stale number

-- what is said of a string, by what is wrong
abbrev pub IsStringSaid : List ℕ → Kind → List ℕ → Notice → List ℕ → Type 0
IsStringSaid file of text (notice.Fault fault) said = IsFaultSaid file of text fault said
IsStringSaid file of text (notice.Edit refused) said = IsEditSaid file of text refused said
IsStringSaid file of text (notice.Stale number) said = said ≡ stale_said file (lines text) number

-- what is said of bytes
abbrev pub IsSaid : List ℕ → Kind → List ℕ → Notice → List ℕ → Type 0
IsSaid file of bytes notice said =
    ((is_utf8 bytes ≡ false) × (said ≡ utf8_advice file)) ⊎ IsStringSaid file of bytes notice said

-- what is said of the file at a path
abbrev pub IsFileSaid : (List ℕ → Known) → List ℕ → Kind → Notice → List ℕ → Type 0
IsFileSaid files path of notice said =
    (bytes : List ℕ) × IsWhole (files path) max_file bytes × IsSaid path of bytes notice said
