-- The arguments of the command `stop`; this project's profile.
use Rattle.std.specs.Prelude.{ℕ, List, [], ◌∷◌, Option, codes, unwrap_or}
use Rattle.std.specs.Option.{option_map_or}
use Rattle.clap.specs.Words.{App, Kinds, Row, new_app, with_rule}
use Rattle.clap.specs.declared.error.kind.ErrorKind.TheVariants.{ValueValidation}
use Rattle.omaha_arguments.specs.Options.{option_named, seconds_in, string_in, wanted_option}
use Rattle.omaha_arguments.specs.declared.command.Stop.{Stop}

-- the command `stop --to ADDR [--timeout SECONDS]`
abbrev pub stop_app : App
stop_app = with_rule (with_rule (new_app (codes "stop")) (wanted_option (codes "to"))) (option_named (codes "timeout"))

-- rule: Time limit of a stop
-- how many seconds the server may take to end, 80 without the option; none if it is no such number
abbrev pub stop_timeout_in : List Row → Option ℕ
stop_timeout_in options = seconds_in (codes "timeout") 80 options

-- what is wrong with that option
abbrev pub faults_of_stop : List Row → Kinds
faults_of_stop options = option_map_or (λ seconds. []) (stop_timeout_in options) (ValueValidation ∷ [])

-- what the arguments of `stop` ask for, within a time: the operator's listener
abbrev pub stop_with : ℕ → List Row → Stop
stop_with timeout options = record { to = string_in (codes "to") options; timeout = timeout }

abbrev pub stop_in : List Row → Stop
stop_in options = stop_with (unwrap_or (stop_timeout_in options) 0) options
