-- How a run ends whose arguments ask for no command.
use Rattle.std.proofs.Common.{◌≡◌, ℕ, List, [], Option, Some, None, Result, Ok, Err, inl, inr, refl, subst}
use Rattle.streams.specs.Streams.{Known}
use Rattle.omaha_arguments.specs.Commands.{faults_of, invocation_of}
use Rattle.omaha_arguments.specs.Errors.{IsWhy}
use Rattle.omaha_arguments.specs.declared.command.Invocation.{Invocation}
use Rattle.omaha_arguments.specs.declared.error.ArgumentError.{ArgumentError}
use Rattle.omaha_arguments.specs.declared.error.ArgumentError.TheVariants as argument
use Rattle.omaha_commands.specs.Operating.{Listeners}
use Rattle.profiles.specs.Streams.{Streams}
use Rattle.failures.specs.declared.failure.Failure.{Failure}
use Rattle.omaha_cli.specs.Doing.{Does, Logs}
use Rattle.omaha_cli.specs.Worlds.{World}
use Rattle.omaha_cli.specs.Running.{Ends, EndsBy, EndsTask, IsLoggedBy, IsMistaken, IsTaskOf, code_of, ending_of, status_of}
use Rattle.omaha_cli.specs.declared.running.Ending.{Ending}
use Rattle.omaha_cli.specs.declared.running.Ending.TheVariants as ending
use Rattle.omaha_cli.specs.declared.running.Task.{Task}
use Rattle.omaha_cli.specs.declared.running.Status.{Status}
use Rattle.omaha_cli.specs.declared.running.Status.TheVariants as status

pub Ends-without_command :
    (world : World) (words : List (List ℕ)) (input old new before after : Known) (error : ArgumentError) (ended : Ending) →
    IsWhy (faults_of words) error →
    EndsBy error old new ended →
    Ends world words None (record { input = input; output = old }) (record { input = input; output = new }) before after ended
Ends-without_command world words input old new before after (argument.Shown text) ending.Shown why shows = (why, (text, shows), refl)
Ends-without_command world words input old new before after (argument.Shown text) (ending.Failed refusal) why shows =
    inl (why, shows.0, (text, shows.1), refl)
Ends-without_command world words input old new before after (argument.Shown text) ending.Replied why shows = absurd shows
Ends-without_command world words input old new before after (argument.Shown text) (ending.Mistaken other) why shows = absurd shows
Ends-without_command world words input old new before after (argument.Invalid text) (ending.Mistaken other) why is = (why, cc is.1)
Ends-without_command world words input old new before after (argument.Invalid text) ending.Replied why is = absurd (cc is.0)
Ends-without_command world words input old new before after (argument.Invalid text) ending.Shown why is = absurd (cc is.0)
Ends-without_command world words input old new before after (argument.Invalid text) (ending.Failed refusal) why is = absurd (cc is.0)
Ends-without_command world words input old new before after argument.Memory (ending.Failed refusal) why is = inr (cc is.0, cc is.1)
Ends-without_command world words input old new before after argument.Memory ending.Replied why is = absurd (cc is.0)
Ends-without_command world words input old new before after argument.Memory ending.Shown why is = absurd (cc is.0)
Ends-without_command world words input old new before after argument.Memory (ending.Mistaken other) why is = absurd (cc is.0)

-- the status of a usage error is that of an ending by invalid arguments
pub Usage-two : (ended : Ending) (returned : Status) (code : ℕ) → code ≡ code_of returned → returned ≡ status_of ended → code ≡ 2 → status_of ended ≡ status.Usage
Usage-two ended status.Success code is of two = cc
Usage-two ended status.Failure code is of two = cc
Usage-two ended status.Usage code is of two = cc

-- a task was asked for, and ended as it does
pub Ends-with_task :
    (world : World) (words : List (List ℕ)) (asked : Invocation) (task : Option Task) (old new : Streams) (before after : Known)
    (ended : Ending) → faults_of words ≡ [] → asked ≡ invocation_of words → EndsTask world asked task old new before after ended →
    Ends world words task old new before after ended
Ends-with_task world words asked (Some task) old new before after ended none same ends =
    (none, subst (λ (a : Invocation). EndsTask world a (Some task) old new before after ended) same ends)
Ends-with_task world words asked None old new before after ending.Replied none same ends = absurd ends
Ends-with_task world words asked None old new before after ending.Shown none same ends = absurd ends
Ends-with_task world words asked None old new before after (ending.Failed refusal) none same ends = absurd ends
Ends-with_task world words asked None old new before after (ending.Mistaken text) none same ends = absurd ends

-- such an ending is no mistake of the arguments
pub EndsTask-no_mistake :
    {Z : Type 0} (world : World) (asked : Invocation) (task : Option Task) (old new : Streams) (before after : Known)
    (ended : Ending) → EndsTask world asked task old new before after ended → IsMistaken ended → Z
EndsTask-no_mistake world asked task old new before after ending.Replied ends mistaken = cc
EndsTask-no_mistake world asked task old new before after ending.Shown ends mistaken = cc
EndsTask-no_mistake world asked task old new before after (ending.Failed refusal) ends mistaken = cc
EndsTask-no_mistake world asked (Some task) old new before after (ending.Mistaken text) ends mistaken = absurd ends
EndsTask-no_mistake world asked None old new before after (ending.Mistaken text) ends mistaken = absurd ends

-- what a task came to is how it ends
pub EndsTask-ending_of :
    (world : World) (asked : Invocation) (task : Task) (old new : Streams) (before after : Known)
    (done : Result (Unit {0}) Failure) → IsTaskOf world asked task → Does world task old new before after done →
    EndsTask world asked (Some task) old new before after (ending_of done)
EndsTask-ending_of world asked task old new before after (Ok done) is does = (is, does)
EndsTask-ending_of world asked task old new before after (Err refusal) is does = (is, does)

-- and what it printed on the standard error is what was printed before that
pub IsLoggedBy-ending_of :
    (listeners : Listeners) (task : Task) (before after : Known) (done : Result (Unit {0}) Failure) →
    Logs listeners task before after done → IsLoggedBy listeners (Some task) (ending_of done) before after
IsLoggedBy-ending_of listeners task before after (Ok done) logs = logs
IsLoggedBy-ending_of listeners task before after (Err refusal) logs = logs
