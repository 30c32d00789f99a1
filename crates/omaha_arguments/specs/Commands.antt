-- What the arguments of the command line ask for, as `clap` reads them; this project's profile.
use Rattle.std.specs.Prelude.{ℕ, true, false, List, [], ◌∷◌, codes, if◌then◌else◌, Option, None, unwrap_or}
use Rattle.std.specs.Option.{option_map_or}
use Rattle.std.specs.Str.{bytes_eq}
use Rattle.clap.specs.Kinds.{or_else}
use Rattle.clap.specs.Simple.{on_top}
use Rattle.clap.specs.Words.{App, Kinds, Row, Text, fault_of, first_of, new_app, subcommand_of, with_rule, with_subcommand}
use Rattle.clap.specs.declared.error.kind.ErrorKind.TheVariants.{ValueValidation}
use Rattle.omaha_arguments.specs.GraphArguments.{graph_app, graph_in}
use Rattle.omaha_arguments.specs.HistoryArguments.{asked_in, faults_of_history, history_app}
use Rattle.omaha_arguments.specs.OperatorArguments.{dump_app, faults_of_timeout, publication_in, publish_app, raise_app, raise_in, server_in, status_app}
use Rattle.omaha_arguments.specs.Options.{flag_in, number_in, option_named, strings_in, with_verbose, workers_in}
use Rattle.omaha_arguments.specs.ReportArguments.{certify_app, check_app, comparison_in, describe_app, explain_app, faults_of_check, faults_of_report, report_in, verify_app}
use Rattle.omaha_arguments.specs.ReviewArguments.{faults_of_review, review_app, review_in}
use Rattle.omaha_arguments.specs.ScriptArguments.{faults_of_script, script_app, script_in}
use Rattle.omaha_arguments.specs.ServeArguments.{faults_of_serve, serve_app, serve_in}
use Rattle.omaha_arguments.specs.StopArguments.{faults_of_stop, stop_app, stop_in}
use Rattle.omaha_arguments.specs.WalkArguments.{faults_of_walk, walk_app, walk_in}
use Rattle.omaha_arguments.specs.declared.command.Command.{Command}
use Rattle.omaha_arguments.specs.declared.command.Command.TheVariants as command
use Rattle.omaha_arguments.specs.declared.command.Invocation.{Invocation}
use Rattle.omaha_arguments.specs.declared.command.Once.{Once}
use Rattle.omaha_arguments.specs.declared.command_line.Name.{Name}
use Rattle.omaha_arguments.specs.declared.command_line.Name.TheVariants as kind

-- the command `once`, with its two options
abbrev pub once_app : App
once_app =
    with_rule (with_rule (new_app (codes "once")) (option_named (codes "profile")))
    (option_named (codes "moment"))

-- the program without its commands; its arguments are those after its name
abbrev pub plain_app : App
plain_app = on_top (λ top. record top { no_binary_name = true; has_version = true }) (new_app (codes "omaha"))

-- a program with one more command, which has `--verbose` too
abbrev pub with_own : App → App → App
with_own app own = with_subcommand app (with_verbose own).top

-- the program's commands
abbrev pub omaha_app : App
omaha_app =
    with_own
    (with_own
    (with_own
    (with_own
    (with_own
    (with_own
    (with_own
    (with_own
    (with_own
    (with_own
    (with_own
    (with_own
    (with_own
    (with_own
    (with_own (with_own (with_own plain_app serve_app) publish_app) script_app)
    raise_app)
    dump_app)
    status_app)
    stop_app)
    history_app)
    check_app)
    review_app)
    graph_app)
    walk_app)
    describe_app)
    certify_app)
    verify_app)
    explain_app)
    once_app

-- the number of `--moment`, or 0 without the option; none if it is no number
abbrev pub timestamp_in : List Row → Option ℕ
timestamp_in options = number_in (codes "moment") 0 options

-- what the options of `once` ask for, at a time
abbrev pub once_at : ℕ → List Row → Once
once_at moment options = record { profile = first_of (codes "profile") options; moment = moment }

-- what the options of `once` ask for
abbrev pub once_in : List Row → Once
once_in options = once_at (unwrap_or (timestamp_in options) 0) options

-- what is wrong with the options of `once`
abbrev pub faults_of_once : List Row → Kinds
faults_of_once options = option_map_or (λ moment. []) (timestamp_in options) (ValueValidation ∷ [])

-- without a command: the built-in catalogue, at the time 0
abbrev pub plain_once : Once
plain_once = record { profile = None; moment = 0 }

-- what `check` is asked to do: to compare with a folder, or to report on the profile alone
abbrev pub check_in : List Row → Command
check_in options =
    option_map_or (λ comparison. command.Compare comparison)
    (comparison_in (unwrap_or (workers_in options) 1) options)
    (command.Report (report_in (codes "check") (unwrap_or (workers_in options) 1) options))

-- the command of a name that is no operator's
unfoldable pub other_name_of : List ℕ → Name
other_name_of name =
    if bytes_eq name (codes "once") then kind.Once
    else (if bytes_eq name (codes "check") then kind.Check
    else (if bytes_eq name (codes "review") then kind.Review
    else (if bytes_eq name (codes "graph") then kind.Graph
    else (if bytes_eq name (codes "walk") then kind.Walk
    else (if bytes_eq name (codes "describe") then kind.Describe
    else (if bytes_eq name (codes "explain") then kind.Explain else kind.Other))))))

-- the command of a name
unfoldable pub name_of : List ℕ → Name
name_of name =
    if bytes_eq name (codes "serve") then kind.Serve
    else (if bytes_eq name (codes "publish") then kind.Publish
    else (if bytes_eq name (codes "script") then kind.Script
    else (if bytes_eq name (codes "raise") then kind.Raise
    else (if bytes_eq name (codes "dump") then kind.Dump
    else (if bytes_eq name (codes "status") then kind.Status
    else (if bytes_eq name (codes "stop") then kind.Stop
    else (if bytes_eq name (codes "history") then kind.History else other_name_of name)))))))

-- what a command is asked to do; any other one is to report on a profile, by its name
abbrev pub command_named : Name → List ℕ → List Row → Command
command_named kind.Once name options = command.Once (once_in options)
command_named kind.Serve name options = command.Serve (serve_in options)
command_named kind.Publish name options = command.Publish (publication_in options)
command_named kind.Script name options = command.Script (script_in options)
command_named kind.Raise name options = command.Raise (raise_in options)
command_named kind.Dump name options = command.Dump (server_in options)
command_named kind.Status name options = command.Status (server_in options)
command_named kind.Stop name options = command.Stop (stop_in options)
command_named kind.History name options = command.History (asked_in options)
command_named kind.Explain name options = command.Explain (first_of (codes "CODE") options)
command_named kind.Walk name options = command.Walk (walk_in options)
command_named kind.Describe name options = command.Describe (strings_in (codes "FILE") options)
command_named kind.Check name options = check_in options
command_named kind.Review name options = command.Review (review_in options)
command_named kind.Graph name options = command.Graph (graph_in options)
command_named kind.Other name options = command.Report (report_in name 1 options)

-- what is wrong with the options of a command
abbrev pub faults_named : Name → List ℕ → List Row → Kinds
faults_named kind.Once name options = faults_of_once options
faults_named kind.Serve name options = faults_of_serve options
faults_named kind.Publish name options = faults_of_timeout options
faults_named kind.Script name options = faults_of_script options
faults_named kind.Raise name options = faults_of_timeout options
faults_named kind.Dump name options = faults_of_timeout options
faults_named kind.Status name options = faults_of_timeout options
faults_named kind.Stop name options = faults_of_stop options
faults_named kind.History name options = faults_of_history options
faults_named kind.Explain name options = []
faults_named kind.Walk name options = faults_of_walk options
faults_named kind.Describe name options = []
faults_named kind.Check name options = faults_of_check options
faults_named kind.Review name options = faults_of_review options
faults_named kind.Graph name options = []
faults_named kind.Other name options = faults_of_report name options

-- what the command of a name is asked to do
abbrev pub command_in : List ℕ → List Row → Command
command_in name options = command_named (name_of name) name options

-- what is wrong with the options of the command of a name
abbrev pub faults_in : List ℕ → List Row → Kinds
faults_in name options = faults_named (name_of name) name options

-- what the command of a name is asked to do, and whether it says more
abbrev pub invocation_in : List ℕ → List Row → Invocation
invocation_in name options = record { command = command_in name options; verbose = flag_in (codes "verbose") options }

-- without a command
abbrev pub plain_invocation : Invocation
plain_invocation = record { command = command.Once plain_once; verbose = false }

-- rule: Arguments of the command line
-- what the arguments ask for
abbrev pub invocation_of : List Text → Invocation
invocation_of words =
    option_map_or (λ named. invocation_in named.0 named.1) (subcommand_of omaha_app words) plain_invocation

-- what is wrong with the arguments, or the help or version that they ask for: what `clap` finds, else
-- what is wrong with the options
abbrev pub faults_of : List Text → Kinds
faults_of words =
    or_else (fault_of omaha_app words)
    (option_map_or (λ named. faults_in named.0 named.1) (subcommand_of omaha_app words) [])
