-- The arguments of the operator's commands `publish`, `raise`, `dump` and `status`; this project's profile.
use Rattle.std.specs.Prelude.{ℕ, List, [], ◌∷◌, Option, codes, unwrap_or}
use Rattle.std.specs.Option.{option_map_or}
use Rattle.clap.specs.Words.{App, Kinds, Row, first_of, new_app, with_rule}
use Rattle.clap.specs.declared.error.kind.ErrorKind.TheVariants.{ValueValidation}
use Rattle.omaha_arguments.specs.Options.{flag_in, flag_named, option_named, seconds_in, string_in, wanted, wanted_option}
use Rattle.omaha_arguments.specs.declared.command.Publication.{Publication}
use Rattle.omaha_arguments.specs.declared.command.Raise.{Raise}
use Rattle.omaha_arguments.specs.declared.command.ServerAsked.{ServerAsked}

-- the commands `publish --to ADDR [--check] [--packages DIR] F`, `raise --to ADDR NAME BUDGET`, `dump --to ADDR` and
-- `status --to ADDR`, each with `--timeout SECONDS`
abbrev pub publish_app : App
publish_app =
    with_rule
    (with_rule
    (with_rule
    (with_rule (with_rule (new_app (codes "publish")) (wanted_option (codes "to"))) (flag_named (codes "check")))
    (option_named (codes "packages")))
    (option_named (codes "timeout")))
    (wanted (codes "F"))

abbrev pub raise_app : App
raise_app =
    with_rule
    (with_rule
    (with_rule (with_rule (new_app (codes "raise")) (wanted_option (codes "to"))) (option_named (codes "timeout")))
    (wanted (codes "NAME")))
    (wanted (codes "BUDGET"))

abbrev pub dump_app : App
dump_app = with_rule (with_rule (new_app (codes "dump")) (wanted_option (codes "to"))) (option_named (codes "timeout"))

abbrev pub status_app : App
status_app =
    with_rule (with_rule (new_app (codes "status")) (wanted_option (codes "to"))) (option_named (codes "timeout"))

-- rule: Time limit of an exchange
-- how many seconds an exchange with the server may take, 30 without the option; none if it is no such number
abbrev pub timeout_in : List Row → Option ℕ
timeout_in options = seconds_in (codes "timeout") 30 options

-- what is wrong with that option
abbrev pub faults_of_timeout : List Row → Kinds
faults_of_timeout options = option_map_or (λ seconds. []) (timeout_in options) (ValueValidation ∷ [])

-- those seconds, if nothing is wrong
abbrev pub seconds_of_timeout : List Row → ℕ
seconds_of_timeout options = unwrap_or (timeout_in options) 0

-- what the arguments of `publish` ask for, within a time: the operator's listener, the path of the script, only to check
-- it, and the folder that has to have what it adds
abbrev pub publication_with : ℕ → List Row → Publication
publication_with timeout options =
    record {
      to = string_in (codes "to") options;
      script = string_in (codes "F") options;
      check = flag_in (codes "check") options;
      packages = first_of (codes "packages") options;
      timeout = timeout;
    }

abbrev pub publication_in : List Row → Publication
publication_in options = publication_with (seconds_of_timeout options) options

-- what the arguments of `raise` ask for, within a time: the operator's listener, the mirror's name and the budget
abbrev pub raise_with : ℕ → List Row → Raise
raise_with timeout options =
    record {
      to = string_in (codes "to") options;
      name = string_in (codes "NAME") options;
      budget = string_in (codes "BUDGET") options;
      timeout = timeout;
    }

abbrev pub raise_in : List Row → Raise
raise_in options = raise_with (seconds_of_timeout options) options

-- what the arguments of `dump` and of `status` ask for, within a time: the operator's listener
abbrev pub asked_with : ℕ → List Row → ServerAsked
asked_with timeout options = record { to = string_in (codes "to") options; timeout = timeout }

abbrev pub server_in : List Row → ServerAsked
server_in options = asked_with (seconds_of_timeout options) options
