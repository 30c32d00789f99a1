-- The options and arguments of a command, and what their values say; this project's profile.
use Rattle.std.specs.Prelude.{ℕ, ◌≡◌, ◌^◌, ◌==◌, ◌&&◌, Bool, true, List, [], codes, length, nat_le, nat_lt, slice_index, if◌then◌else◌, Option, Some, None, unwrap_or, IfOk, Result}
use Rattle.std.specs.List.{fold}
use Rattle.std.specs.Option.{option_map_or}
use Rattle.std.specs.Str.{all_ascii_digits}
use Rattle.std.specs.Str.Parse.{digits_value}
use Rattle.clap.specs.Words.{App, Row, Rule, all_of, app_of, count_of, first_of, new_rule, with_rule}
use Rattle.clap.specs.declared.builder.action.ArgAction.TheVariants.{Append, Count}
use Rattle.clap.specs.declared.builder.command.Command.{Command}
use Rattle.omaha_arguments.specs.declared.options.Entry.{Entry}
use Rattle.omaha_arguments.specs.declared.options.Entry.TheVariants as entry

-- the command, if memory sufficed for it, is of that shape
abbrev pub IsMade : {E : Type 0} → App → Result Command E → Type 0
IsMade app made = IfOk made (λ command. app_of command ≡ app)

-- an argument, perhaps one that has to be given
abbrev pub argument_named : List ℕ → Bool → Rule
argument_named name required = record (new_rule name) { required = required }

-- an option `--name VALUE`, perhaps one that has to be given
abbrev pub valued_option : List ℕ → Bool → Rule
valued_option name required = record (new_rule name) { long = Some name; value_names = 1; required = required }

-- an option `--name VALUE`
abbrev pub option_named : List ℕ → Rule
option_named name = record (new_rule name) { long = Some name; value_names = 1 }

-- an option that has to be given
abbrev pub wanted_option : List ℕ → Rule
wanted_option name = record (new_rule name) { long = Some name; value_names = 1; required = true }

-- an argument that has to be given
abbrev pub wanted : List ℕ → Rule
wanted name = record (new_rule name) { required = true }

-- an option `--name` without a value
abbrev pub flag_named : List ℕ → Rule
flag_named name = record (new_rule name) { long = Some name; action = Some Count }

-- an argument that has to be given, perhaps several times
abbrev pub wanted_list : List ℕ → Rule
wanted_list name = record (new_rule name) { required = true; action = Some Append }

-- what an entry says
abbrev pub rule_in : Entry → Rule
rule_in (entry.Wanted name help) = wanted name.now
rule_in (entry.Optional name help) = new_rule name.now
rule_in (entry.WantedList name help) = wanted_list name.now
rule_in (entry.WantedOption name value help) = wanted_option name.now
rule_in (entry.PlainOption name value help) = option_named name.now
rule_in (entry.Flag name help) = flag_named name.now

-- a command with `--verbose`
abbrev pub with_verbose : App → App
with_verbose app = with_rule app (flag_named (codes "verbose"))

-- a command with some more arguments
abbrev pub with_entries : App → List Entry → App
with_entries app entries = fold (λ a one. with_rule a (rule_in one)) app entries

-- the flag is given
abbrev pub flag_in : List ℕ → List Row → Bool
flag_in name options = nat_lt 0 (count_of name options)

-- the values of an argument, in their order
abbrev pub strings_in : List ℕ → List Row → List (List ℕ)
strings_in name options = unwrap_or (all_of name options) []

-- the value of an argument, or nothing
abbrev pub string_in : List ℕ → List Row → List ℕ
string_in name options = unwrap_or (first_of name options) []

-- the string begins with a `+`
abbrev pub has_plus : List ℕ → Bool
has_plus text = slice_index text 0 == 43

-- the string is decimal digits, at least one, of a number below 2^64
abbrev pub is_number : List ℕ → Bool
is_number text =
    nat_lt 0 (length text) && all_ascii_digits text && nat_lt (digits_value 10 text) (2 ^ 64)

-- the number in a string
abbrev pub number_of : List ℕ → Option ℕ
number_of text = if is_number text then Some (digits_value 10 text) else None

-- the number of an option, or a default without the option; none if it is no number
abbrev pub number_in : List ℕ → ℕ → List Row → Option ℕ
number_in name default options = option_map_or number_of (first_of name options) (Some default)

-- the number, if it is from 1 to that one
abbrev pub number_up_to : ℕ → ℕ → Option ℕ
number_up_to most number = if nat_lt 0 number && nat_le number most then Some number else None

-- the number of an option, or a default without the option, if it is from 1 to that one
abbrev pub number_within : List ℕ → ℕ → ℕ → List Row → Option ℕ
number_within name default most options = option_map_or (number_up_to most) (number_in name default options) None

-- rule: Number of workers
-- how many workers `--workers` says, 1 without the option; there are at most 8
abbrev pub workers_in : List Row → Option ℕ
workers_in options = number_within (codes "workers") 1 8 options

-- the seconds of an option, 1 to 86400, or so many without it
abbrev pub seconds_in : List ℕ → ℕ → List Row → Option ℕ
seconds_in name default options = number_within name default 86400 options
