-- How a run of the program ends, and what it prints and returns then; this project's profile.
use Rattle.std.specs.Prelude.{◌≡◌, ◌⊎◌, ◌||◌, Bool, true, false, ℕ, Option, Some, None, nat_eq, if◌then◌else◌, List, ◌∷◌, [], ◌++◌, codes, Result, Ok, Err}
use Rattle.std.specs.Io.KnownBytes.{Appends}
use Rattle.streams.specs.Streams.{Known}
use Rattle.streams.specs.Writing.{Breaks, IsWritten}
use Rattle.omaha_arguments.specs.Commands.{faults_of, invocation_of}
use Rattle.omaha_arguments.specs.Errors.{AsksToShow, HasMistake}
use Rattle.omaha_arguments.specs.declared.command.Command.{Command}
use Rattle.omaha_arguments.specs.declared.command.Invocation.{Invocation}
use Rattle.omaha_arguments.specs.declared.error.ArgumentError.{ArgumentError}
use Rattle.omaha_arguments.specs.declared.error.ArgumentError.TheVariants as argument
use Rattle.advice.specs.Advising.{IsAdvice}
use Rattle.advice.specs.Looks.{Sights}
use Rattle.profiles.specs.Profiles.{Files}
use Rattle.omaha_cli.specs.Doing.{Does, Logs}
use Rattle.failures.specs.Failures.{failure_string, is_declined}
use Rattle.omaha_commands.specs.Operating.{Listeners}
use Rattle.profiles.specs.Streams.{Streams}
use Rattle.omaha_cli.specs.Worlds.{World}
use Rattle.failures.specs.declared.failure.Failure.{Failure}
use Rattle.failures.specs.declared.failure.Failure.TheVariants as failure
use Rattle.omaha_commands.specs.declared.operating.Manner.{Manner}
use Rattle.omaha_cli.specs.declared.running.Ending.{Ending}
use Rattle.omaha_cli.specs.declared.running.Ending.TheVariants as ending
use Rattle.omaha_cli.specs.declared.running.Task.{Task}
use Rattle.omaha_cli.specs.declared.running.Status.{Status}
use Rattle.omaha_cli.specs.declared.running.Status.TheVariants as status

-- the exit status after an ending
abbrev pub status_of : Ending → Status
status_of ending.Replied = status.Success
status_of ending.Shown = status.Success
status_of (ending.Failed refusal) = status.Failure
status_of (ending.Mistaken text) = status.Usage

-- the arguments were invalid
abbrev pub IsMistaken : Ending → Type 0
IsMistaken ended = status_of ended ≡ status.Usage

-- the number of a status
abbrev pub code_of : Status → ℕ
code_of status.Success = 0
code_of status.Failure = 1
code_of status.Usage = 2

-- a message was asked for, and is printed; or the writer failed within it
abbrev pub Shows : List ℕ → Known → Known → Ending → Type 0
Shows text before after ending.Shown = Appends before.bytes after.bytes text
Shows text before after (ending.Failed refusal) = (refusal ≡ failure.Write) × Breaks before after text
Shows text before after other = ⊥

-- how a run ends whose arguments ask for no command
abbrev pub EndsBy : ArgumentError → Known → Known → Ending → Type 0
EndsBy (argument.Shown text) before after ended = Shows text before after ended
EndsBy (argument.Invalid text) before after ended = (ended ≡ ending.Mistaken text) × (after ≡ before)
EndsBy argument.Memory before after ended = (ended ≡ ending.Failed failure.Memory) × (after ≡ before)

-- rule: More on standard error
-- a command says more if `--verbose` is given or the standard error is a terminal, and a terminal gets replies as one
pub record IsManner (output_seen errors_seen : Bool → Type 0) (verbose : Bool) (manner : Manner) : Type 0 where
  pub shown : output_seen manner.shown
  pub watched : Bool
  pub seen : errors_seen watched
  pub more : manner.verbose ≡ (verbose || watched)

-- how a run ends whose task came to that
abbrev pub ending_of : Result (Unit {0}) Failure → Ending
ending_of (Ok done) = ending.Replied
ending_of (Err refusal) = ending.Failed refusal

-- the task is what was asked for
abbrev pub IsTaskOf : World → Invocation → Task → Type 0
IsTaskOf world asked task =
    (task.command ≡ asked.command) × IsManner world.output_seen world.errors_seen asked.verbose task.manner

-- a task was carried out, or failed
abbrev pub EndsTask : World → Invocation → Option Task → Streams → Streams → Known → Known → Ending → Type 0
EndsTask world asked (Some task) old new before after ending.Replied =
    IsTaskOf world asked task × Does world task old new before after (Ok tt)
EndsTask world asked (Some task) old new before after (ending.Failed refusal) =
    IsTaskOf world asked task × Does world task old new before after (Err refusal)
EndsTask world asked task old new before after other = ⊥

-- How a run ends, by its arguments, with the task that they ask for. A command does what its own relation says.
abbrev pub Ends : World → List (List ℕ) → Option Task → Streams → Streams → Known → Known → Ending → Type 0
Ends world words (Some task) old new before after ended =
    (faults_of words ≡ []) × EndsTask world (invocation_of words) (Some task) old new before after ended
Ends world words None old new before after ending.Shown =
    AsksToShow (faults_of words)
    × ((text : List ℕ) × Appends old.output.bytes new.output.bytes text)
    × (new.input ≡ old.input)
Ends world words None old new before after (ending.Mistaken text) = HasMistake (faults_of words) × (new ≡ old)
Ends world words None old new before after (ending.Failed refusal) =
    (AsksToShow (faults_of words) × (refusal ≡ failure.Write)
    × ((text : List ℕ) × Breaks old.output new.output text)
    × (new.input ≡ old.input))
    ⊎ ((refusal ≡ failure.Memory) × (new ≡ old))
Ends world words None old new before after ending.Replied = ⊥

-- the line of a failure
abbrev pub failure_line : Failure → List ℕ
failure_line refusal = codes "omaha: " ++ failure_string refusal ++ 10 ∷ []

-- the failure's line is printed or, as a line takes memory, that of a failed allocation
abbrev pub IsPrinted : Failure → Known → Known → Type 0
IsPrinted refusal before after =
    IsWritten before after (failure_line refusal) ⊎ IsWritten before after (failure_line failure.Memory)

-- what is printed on the standard error after an ending
abbrev pub IsReported : Ending → Known → Known → Type 0
IsReported ending.Replied before after = after ≡ before
IsReported ending.Shown before after = after ≡ before
IsReported (ending.Failed refusal) before after =
    ((is_declined refusal ≡ true) × (after ≡ before))
    ⊎ ((is_declined refusal ≡ false) × IsPrinted refusal before after)
IsReported (ending.Mistaken text) before after = IsWritten before after text

-- what was printed on the standard error before an ending: what the task printed there, or nothing if there was none
abbrev pub IsLoggedBy : Listeners → Option Task → Ending → Known → Known → Type 0
IsLoggedBy listeners (Some task) ending.Replied before after = Logs listeners task before after (Ok tt)
IsLoggedBy listeners (Some task) (ending.Failed refusal) before after = Logs listeners task before after (Err refusal)
IsLoggedBy listeners task other before after = after ≡ before

-- the line of what is said of a failure
abbrev pub advice_line : List ℕ → List ℕ
advice_line said = codes "omaha: " ++ said ++ 10 ∷ []

-- it is printed; or nothing, if there is nothing to say or memory ran out
abbrev pub PrintsAdvice : Files → Sights → Command → Failure → Known → Known → Type 0
PrintsAdvice files sights command refusal before after =
    ((said : List ℕ) × IsAdvice files sights command refusal said × IsWritten before after (advice_line said))
    ⊎ (after ≡ before)

-- it is printed only if the command says more
abbrev pub IsAdvisedIf : Bool → Files → Sights → Command → Failure → Known → Known → Type 0
IsAdvisedIf true files sights command refusal before after = PrintsAdvice files sights command refusal before after
IsAdvisedIf false files sights command refusal before after = after ≡ before

-- what is printed on the standard error after the report of an ending
abbrev pub IsAdvised : Files → Sights → Option Task → Ending → Known → Known → Type 0
IsAdvised files sights (Some task) (ending.Failed refusal) before after =
    IsAdvisedIf task.manner.verbose files sights task.command refusal before after
IsAdvised files sights task other before after = after ≡ before

-- rule: Status of the program
-- a whole run: it ends in one of these ways, reports that after what the command printed on the standard error, says more
-- of a failure if it is to, and returns its status
pub record Runs (world : World) (words : List (List ℕ)) (old new : Streams) (before after : Known) (code : ℕ) : Type 0 where
  pub ended : Ending
  pub task : Option Task
  pub between : Known
  pub ends : Ends world words task old new before between ended
  pub logged : IsLoggedBy world.operated task ended before between
  pub failed : Known
  pub reported : IsReported ended between failed
  pub advised : IsAdvised world.files world.sights task ended failed after
  pub status : code ≡ code_of (status_of ended)

-- what is printed of arguments that can't be read, by the exit status
abbrev pub rejection_of : ℕ → List ℕ
rejection_of code =
    if nat_eq code 1 then failure_line failure.Memory
    else codes "error: an argument is not valid UTF-8\n\nFor more information, try '--help'.\n"
