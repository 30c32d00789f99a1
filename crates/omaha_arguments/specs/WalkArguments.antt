-- The options of the command `walk`; this project's profile.
use Rattle.std.specs.Prelude.{ℕ, ⊤, ◌&&◌, Bool, if◌then◌else◌, List, [], ◌∷◌, codes, length, nat_lt}
use Rattle.clap.specs.Words.{App, Kinds, Row, new_app, with_rule}
use Rattle.clap.specs.declared.error.kind.ErrorKind.TheVariants.{ValueValidation}
use Rattle.omaha_json.specs.RequestWriting.{IsAppid}
use Rattle.omaha_arguments.specs.OperatorArguments.{faults_of_timeout, seconds_of_timeout}
use Rattle.omaha_arguments.specs.Options.{flag_in, flag_named, option_named, string_in, wanted_option}
use Rattle.omaha_arguments.specs.declared.command.Command.{Command}
use Rattle.omaha_arguments.specs.declared.command.Command.TheVariants as command
use Rattle.omaha_arguments.specs.declared.command.Walk.{Walk}
use Rattle.omaha_arguments.specs.declared.walk_arguments.Asked.{Asked}
use Rattle.omaha_arguments.specs.declared.walk_arguments.Client.{Client}

-- the command `walk`, with its nine options
abbrev pub walk_app : App
walk_app =
    with_rule
    (with_rule
    (with_rule
    (with_rule
    (with_rule
    (with_rule
    (with_rule
    (with_rule (with_rule (new_app (codes "walk")) (wanted_option (codes "to"))) (wanted_option (codes "app")))
    (wanted_option (codes "version")))
    (option_named (codes "fp")))
    (option_named (codes "cohort")))
    (option_named (codes "session")))
    (option_named (codes "prefix")))
    (flag_named (codes "rollback")))
    (option_named (codes "timeout"))

-- the server that is asked, for which app and in which session
abbrev pub asked_in : List Row → Asked
asked_in options =
    record {
      to = string_in (codes "to") options;
      app = string_in (codes "app") options;
      session = string_in (codes "session") options;
    }

-- what the client has, and may have
abbrev pub client_in : List Row → Client
client_in options =
    record {
      version = string_in (codes "version") options;
      fp = string_in (codes "fp") options;
      cohort = string_in (codes "cohort") options;
      prefix = string_in (codes "prefix") options;
    }

-- what the options of `walk` ask for, within a time
abbrev pub walk_with : ℕ → List Row → Walk
walk_with timeout options =
    record {
      to = string_in (codes "to") options;
      app = string_in (codes "app") options;
      version = string_in (codes "version") options;
      fp = string_in (codes "fp") options;
      cohort = string_in (codes "cohort") options;
      session = string_in (codes "session") options;
      prefix = string_in (codes "prefix") options;
      rollback = flag_in (codes "rollback") options;
      timeout = timeout;
    }

-- rule: Options of a walk
-- what the options of `walk` ask for
abbrev pub walk_in : List Row → Walk
walk_in options = walk_with (seconds_of_timeout options) options

-- an identifier has 1 to 256 bytes
abbrev pub is_appid : List ℕ → Bool
is_appid app = nat_lt 0 (length app) && nat_lt (length app) 257

-- what is wrong with the options of `walk`
abbrev pub faults_of_walk : List Row → Kinds
faults_of_walk options =
    if is_appid (string_in (codes "app") options) then faults_of_timeout options else ValueValidation ∷ []

-- the app of a walk has an identifier that a client can ask with
abbrev pub IsAskable : Command → Type 0
IsAskable (command.Once once) = ⊤
IsAskable (command.Report report) = ⊤
IsAskable (command.Compare comparison) = ⊤
IsAskable (command.Review review) = ⊤
IsAskable (command.Graph graph) = ⊤
IsAskable (command.Describe paths) = ⊤
IsAskable (command.Explain code) = ⊤
IsAskable (command.Serve serve) = ⊤
IsAskable (command.Walk walk) = IsAppid walk.app
IsAskable (command.Publish publication) = ⊤
IsAskable (command.Script asked) = ⊤
IsAskable (command.Raise raise) = ⊤
IsAskable (command.Dump asked) = ⊤
IsAskable (command.Status asked) = ⊤
IsAskable (command.Stop asked) = ⊤
IsAskable (command.History asked) = ⊤
