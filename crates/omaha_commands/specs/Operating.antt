-- What the commands `publish`, `raise`, `dump` and `status` do; this project's profile.
use Rattle.std.specs.Prelude.{◌≡◌, ◌⊎◌, ◌++◌, ◌≤◌, ⊤, ℕ, Bool, true, false, List, bytes_eq, codes, length, Result, Ok, Err}
use Rattle.std.specs.Io.KnownBytes.{Appends}
use Rattle.streams.specs.Reading.{IsLonger, IsWhole}
use Rattle.streams.specs.Streams.{Known}
use Rattle.streams.specs.Writing.{Breaks}
use Rattle.update_client.specs.declared.posting.Reply.{Reply}
use Rattle.omaha_arguments.specs.declared.command.Raise.{Raise}
use Rattle.profiles.specs.Profiles.{Files}
use Rattle.omaha_commands.specs.Forms.{meaning_of}
use Rattle.omaha_commands.specs.ScriptFiles.{max_script}
use Rattle.omaha_commands.specs.ShownReplies.{printed_reply}
use Rattle.omaha_commands.specs.declared.forms.Meaning.{Meaning}
use Rattle.omaha_commands.specs.declared.forms.Meaning.TheVariants as meaning
use Rattle.failures.specs.declared.failure.Failure.{Failure}
use Rattle.failures.specs.declared.failure.Failure.TheVariants as failure

-- which replies the operator's listener at an address gave to a body
abbrev pub Listeners : Type 1
Listeners = List ℕ → List ℕ → Reply → Type 0

-- a file's bytes; or it can't be read, or has too many; or memory ran out
abbrev pub IsRead : Files → List ℕ → Result (List ℕ) Failure → Type 0
IsRead files path (Ok bytes) = IsWhole (files path) max_script bytes
IsRead files path (Err refusal) =
    ((refusal ≡ failure.File path) × (((files path).failed ≡ true) ⊎ IsLonger (files path) max_script))
    ⊎ (refusal ≡ failure.Memory)

-- the path means the standard input
abbrev pub is_input : List ℕ → Bool
is_input path = bytes_eq path (codes "-")

-- the bytes of the standard input; or it can't be read, or is too long; or memory ran out
abbrev pub IsInput : Known → Known → Result (List ℕ) Failure → Type 0
IsInput old new (Ok bytes) = IsWhole old max_script bytes
IsInput old new (Err failure.Read) = new.failed ≡ true
IsInput old new (Err failure.TooLong) = IsLonger old max_script
IsInput old new (Err failure.Memory) = ⊤
IsInput old new (Err other) = ⊥

-- what was read of the standard input; or of a file, and nothing of the standard input
abbrev pub IsReadBy : Bool → Files → List ℕ → Known → Known → Result (List ℕ) Failure → Type 0
IsReadBy true files path old new read = IsInput old new read
IsReadBy false files path old new read = IsRead files path read × (new ≡ old)

-- rule: Script to publish
-- a script is the file at its path, or the standard input if that is `-`
abbrev pub IsScript : Files → List ℕ → Known → Known → Result (List ℕ) Failure → Type 0
IsScript files path old new read = IsReadBy (is_input path) files path old new read

-- the bytes are printed; or the writer failed within them
abbrev pub PrintsBytes : List ℕ → Known → Known → Result (Unit {0}) Failure → Type 0
PrintsBytes bytes before after (Ok done) = Appends before.bytes after.bytes bytes
PrintsBytes bytes before after (Err failure.Write) = Breaks before after bytes
PrintsBytes bytes before after (Err other) = ⊥

-- a reply's body is printed, as a terminal gets it if it is one; or memory ran out before, which only a terminal's takes
abbrev pub PrintsBody : Bool → List ℕ → Known → Known → Result (Unit {0}) Failure → Type 0
PrintsBody shown body before after (Err failure.Memory) = (shown ≡ true) × (after ≡ before)
PrintsBody shown body before after result = PrintsBytes (printed_reply shown body) before after result

-- the failure of a listener that replies as no operator's listener does; or memory ran out
abbrev pub IsUnexpected : List ℕ → ℕ → Failure → Type 0
IsUnexpected to status refusal = (refusal ≡ failure.Unexpected to status) ⊎ (refusal ≡ failure.Memory)

-- a command ends by that failure, and nothing is printed
abbrev pub EndsUnexpected : List ℕ → ℕ → Known → Known → Result (Unit {0}) Failure → Type 0
EndsUnexpected to status before after (Ok done) = ⊥
EndsUnexpected to status before after (Err refusal) = IsUnexpected to status refusal × (after ≡ before)

-- a reply is printed, and the call fails with it; or the writer failed within it, or memory ran out before
abbrev pub PrintsDeclined : Bool → Reply → Known → Known → Result (Unit {0}) Failure → Type 0
PrintsDeclined shown reply before after (Ok done) = ⊥
PrintsDeclined shown reply before after (Err (failure.Declined said)) =
    (said ≡ reply) × PrintsBody shown reply.body.items before after (Ok tt)
PrintsDeclined shown reply before after (Err other) = PrintsBody shown reply.body.items before after (Err other)

-- a reply is printed by what it is, and the call succeeds only if it is the one that was asked for
abbrev pub PrintsBy : Meaning → Bool → List ℕ → Reply → Known → Known → Result (Unit {0}) Failure → Type 0
PrintsBy meaning.Done shown to reply before after result = PrintsBody shown reply.body.items before after result
PrintsBy meaning.Declined shown to reply before after result = PrintsDeclined shown reply before after result
PrintsBy meaning.Unexpected shown to reply before after result = EndsUnexpected to reply.status before after result

-- the reply to a body is printed by what it is; or memory ran out before
abbrev pub PrintsReply : Bool → List ℕ → List ℕ → Reply → Known → Known → Result (Unit {0}) Failure → Type 0
PrintsReply shown to body reply before after result =
    PrintsBy (meaning_of body reply) shown to reply before after result
    ⊎ ((result ≡ Err failure.Memory) × (after ≡ before))

-- the listener can't be reached, or sends no whole reply, or a longer one; or memory ran out
abbrev pub IsUnreached : List ℕ → Result (Unit {0}) Failure → Type 0
IsUnreached to result = (result ≡ Err (failure.Net to)) ⊎ (result ≡ Err failure.Memory)

-- rule: Call of an operator's listener
-- the listener's reply to a body, of so many bytes at most, is printed; or there is none, and nothing is printed
abbrev pub Calls : Listeners → Bool → ℕ → List ℕ → List ℕ → Known → Known → Result (Unit {0}) Failure → Type 0
Calls listeners shown most to body before after result =
    ((reply : Reply) × listeners to body reply × (length reply.body.items ≤ most)
    × PrintsReply shown to body reply before after result)
    ⊎ (IsUnreached to result × (after ≡ before))

-- how many bytes a reply of a line may have, and a dump
abbrev pub max_line : ℕ
max_line = 65536

abbrev pub max_dump : ℕ
max_dump = 268435456

-- a script's bytes are sent as they are
abbrev pub PostsBytes : Listeners → Bool → List ℕ → List ℕ → Known → Known → Result (Unit {0}) Failure → Type 0
PostsBytes listeners shown to script before after result = Calls listeners shown max_line to script before after result

-- the word `raise`, the name and the budget are sent as they are, one space between
abbrev pub Raises : Listeners → Bool → Raise → Known → Known → Result (Unit {0}) Failure → Type 0
Raises listeners shown raise before after result =
    Calls listeners shown max_line raise.to (codes "raise " ++ raise.name ++ codes " " ++ raise.budget) before after result

-- the word `dump` is sent
abbrev pub Dumps : Listeners → Bool → List ℕ → Known → Known → Result (Unit {0}) Failure → Type 0
Dumps listeners shown to before after result = Calls listeners shown max_dump to (codes "dump") before after result

-- the word `status` is sent
abbrev pub PrintsStatus : Listeners → Bool → List ℕ → Known → Known → Result (Unit {0}) Failure → Type 0
PrintsStatus listeners shown to before after result =
    Calls listeners shown max_line to (codes "status") before after result
