-- Which files and addresses a command names; this project's profile.
use Rattle.std.specs.Prelude.{ℕ, ◌&&◌, Bool, false, List, [], codes, if◌then◌else◌, bytes_eq, Option, Some, None}
use Rattle.std.specs.Option.{is_some}
use Rattle.omaha_arguments.specs.declared.command.Command.{Command}
use Rattle.omaha_arguments.specs.declared.command.Command.TheVariants as command
use Rattle.omaha_arguments.specs.declared.command.Question.{Question}
use Rattle.omaha_arguments.specs.declared.command.Question.TheVariants as question
use Rattle.omaha_arguments.specs.declared.command.Serve.{Serve}
use Rattle.omaha_arguments.specs.declared.command.Source.{Source}
use Rattle.omaha_arguments.specs.declared.command.Source.TheVariants as source
use Rattle.advice.specs.declared.looks.Aim.{Aim}
use Rattle.advice.specs.declared.looks.Aim.TheVariants as aim

-- the profile of a source
abbrev pub profile_in : Source → Option (List ℕ)
profile_in (source.Profile path) = Some path
profile_in (source.Server to) = None

-- the path of a command's profile
abbrev pub profile_path : Command → Option (List ℕ)
profile_path (command.Once asked) = asked.profile
profile_path (command.Report asked) = Some asked.profile
profile_path (command.Compare asked) = Some asked.profile
profile_path (command.Review asked) = profile_in asked.source
profile_path (command.Graph asked) = Some asked.profile
profile_path (command.Serve asked) = asked.profile
profile_path other = None

-- the script of a question
abbrev pub script_in : Question → Option (List ℕ)
script_in (question.Script path) = Some path
script_in other = None

-- a path, unless it means the standard input
abbrev pub unless_input : List ℕ → Option (List ℕ)
unless_input path = if bytes_eq path (codes "-") then None else Some path

-- the path of a command's script
abbrev pub script_path : Command → Option (List ℕ)
script_path (command.Report asked) = script_in asked.question
script_path (command.Review asked) = asked.script
script_path (command.Publish asked) = unless_input asked.script
script_path other = None

-- the address of a walk's server
abbrev pub server_of : Command → List ℕ
server_of (command.Walk asked) = asked.to
server_of other = []

-- what a command does at an address
abbrev pub aim_of : Command → Aim
aim_of (command.Serve asked) = aim.Bind
aim_of (command.Publish asked) = if asked.check then aim.Connect else aim.Post
aim_of (command.Raise asked) = aim.Post
aim_of (command.Stop asked) = aim.Post
aim_of other = aim.Connect

-- the path of a command's folder of packages that are compared
abbrev pub packages_path : Command → Option (List ℕ)
packages_path (command.Compare asked) = Some asked.packages
packages_path (command.Publish asked) = asked.packages
packages_path other = None

-- what a command does at the path of a history: a server that names a profile makes a new one there
abbrev pub history_aim : Command → Aim
history_aim (command.Serve asked) = if is_some asked.profile then aim.Append else aim.Read
history_aim other = aim.Read

-- the path is the one that is named
abbrev pub is_named : List ℕ → Option (List ℕ) → Bool
is_named path None = false
is_named path (Some named) = bytes_eq path named

-- a server is to listen at the address both for clients and for the operator
abbrev pub is_given_twice : Command → List ℕ → Bool
is_given_twice (command.Serve asked) address = bytes_eq address asked.listen && is_named address asked.operator
is_given_twice other address = false

-- what a server does at a path: it finds the folder of packages, adds lines to the log, and reads the profile
abbrev pub serve_aim : Serve → List ℕ → Aim
serve_aim asked path =
    if bytes_eq path asked.packages then aim.Enter
    else if is_named path asked.log then aim.Append
    else aim.Read

-- what a command does at a path
abbrev pub file_aim : Command → List ℕ → Aim
file_aim (command.Serve asked) path = serve_aim asked path
file_aim other path = aim.Read
