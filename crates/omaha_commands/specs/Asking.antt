-- The number of a server's edition, as its operator's listener names it; this project's profile.
use Rattle.std.specs.Prelude.{◌≡◌, ℕ, Bool, true, false, codes, decimal, List, ◌++◌, Option, Some, None, Result, Ok, Err}
use Rattle.streams.specs.Streams.{Known}
use Rattle.streams.specs.Writing.{IsWritten}
use Rattle.omaha_arguments.specs.Options.{number_of}
use Rattle.update_client.specs.declared.posting.Reply.{Reply}
use Rattle.update_client.specs.declared.walk_at.Limits.{Limits}
use Rattle.omaha_commands.specs.Forms.{line_after}
use Rattle.omaha_commands.specs.Operating.{Listeners, max_dump, max_line}
use Rattle.omaha_commands.specs.Reviewing.{IsUnanswered, probe_script}
use Rattle.failures.specs.declared.failure.Failure.{Failure}

-- what an exchange may take whose reply is a line, and one whose reply is a profile
abbrev pub line_limits : ℕ → Limits
line_limits seconds = record { seconds = seconds; reply = max_line }

abbrev pub dump_limits : ℕ → Limits
dump_limits seconds = record { seconds = seconds; reply = max_dump }

-- the bytes between `stale ` and a line feed, if the body is that
abbrev pub digits_said : List ℕ → Option (List ℕ)
digits_said body = line_after (codes "stale ") body

-- the number that digits write
abbrev pub number_by : Option (List ℕ) → Option ℕ
number_by None = None
number_by (Some digits) = number_of digits

-- rule: Edition of a server
-- the number of the edition that a reply names: `stale N`
abbrev pub edition_named : List ℕ → Option ℕ
edition_named body = number_by (digits_said body)

-- the listener named that edition in its reply to a script that no server publishes
abbrev pub HasEdition : Listeners → List ℕ → ℕ → Type 0
HasEdition listeners to number =
    (reply : Reply) × listeners to probe_script reply × (edition_named reply.body.items ≡ Some number)

-- the listener can't be reached, or its reply isn't the one that was asked for
abbrev pub FailsAsked : {A : Type 0} → List ℕ → Result A Failure → Type 0
FailsAsked to found = (refusal : Failure) × IsUnanswered to (Err refusal) × (found ≡ Err refusal)

-- the line of an edition
abbrev pub edition_line : ℕ → List ℕ → List ℕ
edition_line number to = codes "omaha: edition " ++ decimal number ++ codes " at " ++ to ++ codes "\n"

-- the line of the edition that the server has
abbrev pub IsEditionLine : Listeners → List ℕ → List ℕ → Type 0
IsEditionLine listeners to line = (number : ℕ) × HasEdition listeners to number × (line ≡ edition_line number to)

-- that line is printed after a dump, and nothing if there was none
abbrev pub IsNoted : Listeners → List ℕ → Known → Known → Result (Unit {0}) Failure → Type 0
IsNoted listeners to before after (Ok done) =
    (line : List ℕ) × IsEditionLine listeners to line × IsWritten before after line
IsNoted listeners to before after (Err refusal) = after ≡ before

-- rule: Verbose dump
-- it is printed only if that is asked for
abbrev pub Notes : Bool → Listeners → List ℕ → Known → Known → Result (Unit {0}) Failure → Type 0
Notes true listeners to before after result = IsNoted listeners to before after result
Notes false listeners to before after result = after ≡ before
