-- What a command does; this project's profile.
use Rattle.std.specs.Prelude.{◌≡◌, Bool, Result}
use Rattle.streams.specs.Streams.{Known}
use Rattle.omaha_commands.specs.Comparing.{Compares}
use Rattle.omaha_commands.specs.Describing.{PrintsDescriptions}
use Rattle.omaha_commands.specs.Explaining.{Explains}
use Rattle.omaha_commands.specs.Graphing.{PrintsGraph}
use Rattle.omaha_histories.specs.Histories.{PrintsHistory}
use Rattle.omaha_commands.specs.Once.{Responds}
use Rattle.omaha_commands.specs.Asking.{Notes}
use Rattle.omaha_commands.specs.Operating.{Dumps, Listeners, PrintsStatus, Raises}
use Rattle.omaha_commands.specs.Judging.{Publishes}
use Rattle.omaha_commands.specs.Reports.{Reports}
use Rattle.omaha_commands.specs.Reviewing.{Reviews}
use Rattle.omaha_commands.specs.Scripting.{PrintsScript}
use Rattle.omaha_commands.specs.Stopping.{Stops}
use Rattle.omaha_cli.specs.Serving.{IsQuiet, ServesOn}
use Rattle.profiles.specs.Streams.{Streams}
use Rattle.omaha_commands.specs.Walking.{WalksOn}
use Rattle.omaha_cli.specs.Worlds.{World}
use Rattle.omaha_arguments.specs.declared.command.Command.{Command}
use Rattle.omaha_arguments.specs.declared.command.Command.TheVariants as command
use Rattle.failures.specs.declared.failure.Failure.{Failure}
use Rattle.omaha_commands.specs.declared.operating.Manner.{Manner}
use Rattle.omaha_cli.specs.declared.running.Task.{Task}

-- a reply to a request, a report on a profile or on its packages, a review, a picture, descriptions of files, the
-- explanation of a code, a script, what a history has, a server, a walk, or a call of an operator's listener
abbrev pub DoesBy : World → Manner → Command → Streams → Streams → Known → Known → Result (Unit {0}) Failure → Type 0
DoesBy world manner (command.Once once) old new before after result = Responds world.files once old new result
DoesBy world manner (command.Report report) old new before after result = Reports world.files report old new result
DoesBy world manner (command.Review asked) old new before after result = Reviews world.files world.operated manner.shown asked old new result
DoesBy world manner (command.Graph asked) old new before after result = PrintsGraph world.files asked old new result
DoesBy world manner (command.Compare asked) old new before after result = Compares world.files world.storage asked old new result
DoesBy world manner (command.Describe paths) old new before after result = PrintsDescriptions world.storage paths old new result
DoesBy world manner (command.Explain code) old new before after result = Explains code old new result
DoesBy world manner (command.History asked) old new before after result = PrintsHistory world.stored asked old new result
DoesBy world manner (command.Serve serve) old new before after result =
    ServesOn world.files world.stored world.edges manner.verbose serve old new before after result
DoesBy world manner (command.Walk walk) old new before after result = WalksOn world.replies walk old new result
DoesBy world manner (command.Publish asked) old new before after result = Publishes world.files world.storage world.operated manner.shown asked old new result
DoesBy world manner (command.Script asked) old new before after result = PrintsScript world.operated asked old new result
DoesBy world manner (command.Raise asked) old new before after result =
    Raises world.operated manner.shown asked old.output new.output result × (new.input ≡ old.input)
DoesBy world manner (command.Dump asked) old new before after result =
    Dumps world.operated manner.shown asked.to old.output new.output result × (new.input ≡ old.input)
DoesBy world manner (command.Status asked) old new before after result =
    PrintsStatus world.operated manner.shown asked.to old.output new.output result × (new.input ≡ old.input)
DoesBy world manner (command.Stop asked) old new before after result =
    Stops world.operated world.endings manner.shown asked old.output new.output result × (new.input ≡ old.input)

-- what a task does: its command, printed in its manner, between what was on the standard error before and is after it
abbrev pub Does : World → Task → Streams → Streams → Known → Known → Result (Unit {0}) Failure → Type 0
Does world task old new before after result = DoesBy world task.manner task.command old new before after result

-- what the command prints on the standard error itself: a server may log its replies there, a verbose dump prints the
-- line of the edition, and any other command prints nothing
abbrev pub LogsBy : Listeners → Bool → Command → Known → Known → Result (Unit {0}) Failure → Type 0
LogsBy listeners verbose (command.Serve serve) before after result = IsQuiet verbose serve.log → after ≡ before
LogsBy listeners verbose (command.Dump asked) before after result = Notes verbose listeners asked.to before after result
LogsBy listeners verbose other before after result = after ≡ before

-- what a task prints there
abbrev pub Logs : Listeners → Task → Known → Known → Result (Unit {0}) Failure → Type 0
Logs listeners task before after result = LogsBy listeners task.manner.verbose task.command before after result
