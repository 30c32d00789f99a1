-- How records are listed; this project's profile.
use Rattle.std.specs.Prelude.{ℕ, Bool, ◌+◌, ◌-◌, ◌==◌, List, [], ◌∷◌, ◌++◌, codes, decimal, if◌then◌else◌, length}
use Rattle.std.specs.List.{before_first}
use Rattle.std.specs.Str.{is_utf8}
use Rattle.std.specs.Str.Lines.{strip_carriage_return}
use Rattle.kept_records.specs.declared.record.Kind.{Kind}
use Rattle.kept_records.specs.declared.record.Kind.TheVariants as kind
use Rattle.kept_records.specs.declared.record.Record.{Record}
use Rattle.streams.specs.Strings.{shown_string}
use Rattle.omaha_histories.specs.Numbering.{edition_of}

-- the word for a kind
abbrev pub kind_word : Kind → List ℕ
kind_word kind.Profile = codes "profile"
kind_word kind.Script = codes "script"
kind_word kind.Raise = codes "raise"

-- a line feed
abbrev pub is_feed : ℕ → Bool
is_feed byte = byte == 10

-- what is before the first line feed
abbrev pub before_feed : List ℕ → List ℕ
before_feed text = before_first is_feed text

-- the first line of bytes that are UTF-8, without the carriage return at its end, else nothing
abbrev pub first_line : List ℕ → List ℕ
first_line bytes = if is_utf8 bytes then strip_carriage_return (before_feed bytes) else []

-- a line of a record's number and kind, how many bytes it has, the edition that is then published, and a string
abbrev pub words_line : ℕ → List ℕ → ℕ → ℕ → List ℕ → List ℕ
words_line number kind bytes edition string =
    decimal number ++ codes " " ++ kind ++ codes " " ++ decimal bytes ++ codes " " ++ decimal edition ++ codes " "
    ++ shown_string string ++ codes "\n"

-- the line of a record, which ends with the first line of its bytes
abbrev pub record_line : ℕ → ℕ → Record → List ℕ
record_line number edition entry =
    words_line number (kind_word entry.kind) (length entry.bytes) edition (first_line entry.bytes)

-- a line for each record, numbered on from a number, after so many editions
abbrev pub record_lines : ℕ → ℕ → List Record → List ℕ
record_lines number editions [] = []
record_lines number editions (entry ∷ others) =
    record_line number (editions + edition_of entry.kind) entry
    ++ record_lines (number + 1) (editions + edition_of entry.kind) others

-- rule: Listed records
-- the lines of records, of which the first has this number, which is that of its edition
abbrev pub listing : ℕ → List Record → List ℕ
listing first records = record_lines first (first - 1) records
