-- The arguments of the command `script`; this project's profile.
use Rattle.std.specs.Prelude.{ℕ, ◌&&◌, Bool, not, if◌then◌else◌, List, [], ◌∷◌, codes, is_some, Option, unwrap_or}
use Rattle.std.specs.Option.{option_map_or}
use Rattle.clap.specs.Words.{App, Kinds, Row, first_of, new_app, with_rule}
use Rattle.clap.specs.declared.error.kind.ErrorKind.TheVariants.{ValueValidation}
use Rattle.omaha_arguments.specs.Options.{number_in, option_named, strings_in, wanted_list}
use Rattle.omaha_arguments.specs.declared.command.Base.{Base}
use Rattle.omaha_arguments.specs.declared.command.Base.TheVariants.{Number, Server}
use Rattle.omaha_arguments.specs.declared.command.Script.{Script}

-- the command `script [--base N] [--to ADDR] WORD..`
abbrev pub script_app : App
script_app =
    with_rule
    (with_rule (with_rule (new_app (codes "script")) (option_named (codes "base"))) (option_named (codes "to")))
    (wanted_list (codes "WORD"))

-- the number of `--base`; none if it is no number
abbrev pub number_of_base : List Row → Option ℕ
number_of_base options = number_in (codes "base") 1 options

-- the edition of a server, if one is named, or that of a number
abbrev pub base_in : ℕ → List Row → Base
base_in number options = option_map_or (λ to. Server to) (first_of (codes "to") options) (Number number)

-- a number is given, or a server, and not both
abbrev pub is_one_base : List Row → Bool
is_one_base options =
    if is_some (first_of (codes "to") options) then not (is_some (first_of (codes "base") options))
    else is_some (first_of (codes "base") options)

-- what the arguments of `script` ask for, with such a number
abbrev pub script_for : ℕ → List Row → Script
script_for number options = record { base = base_in number options; words = strings_in (codes "WORD") options }

-- rule: Arguments of a script
-- what the arguments of `script` ask for
abbrev pub script_in : List Row → Script
script_in options = script_for (unwrap_or (number_of_base options) 1) options

-- what is wrong with them
abbrev pub faults_of_script : List Row → Kinds
faults_of_script options =
    if is_some (number_of_base options) && is_one_base options then [] else ValueValidation ∷ []
