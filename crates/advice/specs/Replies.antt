-- What is said of a server's reply with another status than 200; this project's profile.
use Rattle.std.specs.Prelude.{◌≡◌, ◌⊎◌, ℕ, ◌==◌, Bool, if◌then◌else◌, List, [], ◌∷◌, ◌++◌, bytes_eq, codes, Option, Some, None, option_map}
use Rattle.std.specs.List.{after_first, before_first}
use Rattle.std.specs.Map.{lookup}
use Rattle.std.specs.Option.{is_some, option_or}
use Rattle.std.specs.Str.{is_utf8}
use Rattle.streams.specs.Streams.{Known}
use Rattle.catalogue.specs.declared.fault.Fault.{Fault}
use Rattle.failures.specs.Explanations.{explanation_of}
use Rattle.omaha_arguments.specs.Options.{number_of}
use Rattle.omaha_arguments.specs.declared.command.Command.{Command}
use Rattle.omaha_arguments.specs.declared.command.Command.TheVariants as command
use Rattle.omaha_arguments.specs.declared.command.Raise.{Raise}
use Rattle.profile_toml.specs.declared.fault.ProfileFault.TheVariants as fault
use Rattle.advice.specs.Documents.{IsFileSaid}
use Rattle.advice.specs.Edits.{fault_named}
use Rattle.advice.specs.Looks.{look_string}
use Rattle.advice.specs.Sources.{script_path}
use Rattle.advice.specs.Tables.{is_space}
use Rattle.advice.specs.declared.documents.Notice.{Notice}
use Rattle.advice.specs.declared.documents.Notice.TheVariants as notice
use Rattle.advice.specs.declared.tables.Kind.{Kind}
use Rattle.advice.specs.declared.tables.Kind.TheVariants as kind

-- the first word of a line, and what follows it
abbrev pub first_word : List ℕ → List ℕ
first_word line = before_first is_space line

abbrev pub after_word : List ℕ → List ℕ
after_word line = after_first is_space line

-- the end of a line
abbrev pub is_feed : ℕ → Bool
is_feed byte = byte == 10

-- the first line of a body that is UTF-8, else nothing
abbrev pub line_in : List ℕ → List ℕ
line_in body = if is_utf8 body then before_first is_feed body else []

-- a rejected edit, by its index and its fault
abbrev pub edit_notice : Option ℕ → Option Fault → Option Notice
edit_notice (Some index) (Some fault) = Some (notice.Edit (record { index = index; fault = fault }))
edit_notice index fault = None

-- a script for another edition
abbrev pub stale_notice : Option ℕ → Option Notice
stale_notice (Some number) = Some (notice.Stale number)
stale_notice None = None

-- the fault of a script by its code, with the path that follows its name
abbrev pub script_fault : List ℕ → List ℕ → Option Notice
script_fault word rest =
    if bytes_eq word (codes "F1") then Some (notice.Fault fault.NotToml)
    else if bytes_eq word (codes "F2") then Some (notice.Fault fault.BadSchema)
    else if bytes_eq word (codes "F3") then Some (notice.Fault (fault.BadEntry (after_word rest)))
    else if bytes_eq word (codes "F5") then Some (notice.Fault fault.TooManyEdits)
    else None

-- what a line says by its first word, and what follows
abbrev pub notice_by : List ℕ → List ℕ → Option Notice
notice_by word rest =
    if bytes_eq word (codes "stale") then stale_notice (number_of rest)
    else if bytes_eq word (codes "refused") then
    edit_notice (number_of (first_word rest)) (fault_named (first_word (after_word rest)))
    else script_fault word rest

-- rule: Line of a server
-- what a server's line says of a script: its fault, a rejected edit, or that it is for another edition
abbrev pub notice_in : List ℕ → Option Notice
notice_in line = notice_by (first_word line) (after_word line)

-- the word that explains a line
abbrev pub word_of : List ℕ → List ℕ
word_of line = if bytes_eq (first_word line) (codes "refused") then first_word (after_word line) else first_word line

-- what is asked of a raise, by the word of the reply
abbrev pub raise_remedies : List (List ℕ × List ℕ)
raise_remedies =
    (codes "B1", codes "no mirror has this name: omaha dump lists them")
    ∷ (codes "B2", codes "a budget is at most 1152921504606846976 bytes")
    ∷ (codes "B3", codes "the mirror's budget is higher already, and is never lowered")
    ∷ (codes "bad", codes "a budget is a decimal number of bytes, without leading zeros")
    ∷ []

-- what the reply to a raise is about: the name of the mirror, or its budget
abbrev pub raise_value : List ℕ → Raise → List ℕ
raise_value word raise = if bytes_eq word (codes "B1") then raise.name else raise.budget

-- rule: Advice on a raise
-- what is said of a raise, by the word of the reply
abbrev pub raise_said : List ℕ → Command → Option (List ℕ)
raise_said word (command.Raise raise) =
    option_map (λ remedy. look_string (raise_value word raise) remedy word) (lookup (bytes_eq word) raise_remedies)
raise_said word other = None

-- where a word is explained
abbrev pub see_string : List ℕ → List ℕ
see_string word = codes "see omaha explain " ++ word

-- a line whose first word is explained
abbrev pub explained : List ℕ → Option (List ℕ)
explained line = if is_some (explanation_of (first_word line)) then Some (see_string (first_word line)) else None

-- what is said of a line: of a raise, or where it is explained
abbrev pub line_said : Command → List ℕ → Option (List ℕ)
line_said command line = option_or (raise_said (word_of line) command) (explained line)

-- what is said of the file at a path that may be missing
abbrev pub IsPathSaid : (List ℕ → Known) → Option (List ℕ) → Kind → Notice → List ℕ → Type 0
IsPathSaid files None of notice said = ⊥
IsPathSaid files (Some path) of notice said = IsFileSaid files path of notice said

-- by what the line says: of the script's file, if it can be read; else of the line
abbrev pub IsLineSaid : (List ℕ → Known) → Command → List ℕ → Option Notice → List ℕ → Type 0
IsLineSaid files command line (Some notice) said =
    IsPathSaid files (script_path command) kind.Script notice said ⊎ (line_said command line ≡ Some said)
IsLineSaid files command line None said = line_said command line ≡ Some said

-- rule: Advice on a reply
-- what is said of a reply with another status than 200
abbrev pub IsReplySaid : (List ℕ → Known) → Command → List ℕ → List ℕ → Type 0
IsReplySaid files command body said = IsLineSaid files command (line_in body) (notice_in (line_in body)) said
