-- What the command `stop` does; this project's profile.
use Rattle.std.specs.Prelude.{◌≡◌, ◌⊎◌, ℕ, Bool, List, codes, Result, Ok, Err}
use Rattle.streams.specs.Streams.{Known}
use Rattle.update_client.specs.Endings.{Endings}
use Rattle.omaha_arguments.specs.declared.command.Stop.{Stop}
use Rattle.omaha_commands.specs.Operating.{Calls, Listeners, max_line}
use Rattle.failures.specs.declared.failure.Failure.{Failure}
use Rattle.failures.specs.declared.failure.Failure.TheVariants as failure

-- the failure for a server that hasn't ended in time; or memory ran out
abbrev pub IsStopping : List ℕ → Failure → Type 0
IsStopping to refusal = (refusal ≡ failure.Stopping to) ⊎ (refusal ≡ failure.Memory)

-- rule: Wait for a server's end
-- a wait succeeds only if nobody listens at the address any more, and fails only once it had so many seconds
abbrev pub Awaits : Endings → ℕ → List ℕ → Result (Unit {0}) Failure → Type 0
Awaits endings seconds to (Ok done) = endings.gone to
Awaits endings seconds to (Err refusal) = IsStopping to refusal × endings.over seconds

-- a server that was asked to end is waited for; after another reply, or none, nothing is
abbrev pub EndsAfter : Endings → Stop → Result (Unit {0}) Failure → Result (Unit {0}) Failure → Type 0
EndsAfter endings asked (Ok done) result = Awaits endings asked.timeout asked.to result
EndsAfter endings asked (Err refusal) result = result ≡ Err refusal

-- rule: Stop by a command
-- the word `stop` is sent and the reply printed; if its status is 200, the end of the server is waited for
abbrev pub Stops : Listeners → Endings → Bool → Stop → Known → Known → Result (Unit {0}) Failure → Type 0
Stops listeners endings shown asked before after result =
    (called : Result (Unit {0}) Failure) × Calls listeners shown max_line asked.to (codes "stop") before after called
    × EndsAfter endings asked called result
