-- What a post comes to, also if a write of it failed; this project's profile.
use Rattle.std.specs.Prelude.{◌≡◌, ◌+◌, ◌⊎◌, ℕ, List, Option, Result, Ok, Err, ⊤}
use Rattle.std.specs.Io.KnownBytes.{Appends, Keeps}
use Rattle.http_wire.specs.Sending.{AppendsPart}
use Rattle.update_client.specs.declared.heads.fault.LinkFault.{LinkFault}
use Rattle.update_client.specs.declared.heads.fault.LinkFault.TheVariants as fault
use Rattle.update_client.specs.Reads.{failed_reads}
use Rattle.update_client.specs.Replies.{ReplyRead}
use Rattle.update_client.specs.declared.posting.Reply.{Reply}

-- the request was written whole, and no write failed; or a first part of it was, and one failed
abbrev pub IsSent : Option (List ℕ) → Option (List ℕ) → ℕ → ℕ → List ℕ → Type 0
IsSent old new before after text =
    (Appends old new text × (after ≡ before)) ⊎ (AppendsPart old new text × (after ≡ before + 1))

-- what was written of a request, and how many writes failed, by what the post comes to
abbrev pub PostSent : Option (List ℕ) → Option (List ℕ) → ℕ → ℕ → List ℕ → Result Reply LinkFault → Type 0
PostSent old new before after text (Ok reply) = IsSent old new before after text
PostSent old new before after text (Err fault.Memory) =
    IsSent old new before after text ⊎ (Keeps old new × (after ≡ before))
PostSent old new before after text (Err fault.Write) = AppendsPart old new text × (after ≡ before + 1)
PostSent old new before after text (Err other) = Appends old new text × (after ≡ before)

-- why there is no reply
abbrev pub no_reply : LinkFault → Result Reply LinkFault
no_reply why = Err why

-- memory didn't run out
abbrev pub IsNotMemory : LinkFault → Type 0
IsNotMemory fault.Memory = ⊥
IsNotMemory other = ⊤

-- rule: Post whose reply comes early
-- the reply was read, also if a write failed, or why not; after a failed write without a reply, the reading came to
-- another fault than memory's
abbrev pub ReplyAwaited : ℕ → Option (List ℕ) → Option (List ℕ) → ℕ → ℕ → Result Reply LinkFault → Type 0
ReplyAwaited limit old new before after (Err fault.Write) = (why : LinkFault)
    × IsNotMemory why × ReplyRead limit old new (no_reply why) × (after ≡ before + failed_reads (no_reply why))
ReplyAwaited limit old new before after result =
    ReplyRead limit old new result × (after ≡ before + failed_reads result)

-- what a reply comes to after a failed write
abbrev pub after_failed_write : Result Reply LinkFault → Result Reply LinkFault
after_failed_write (Ok reply) = Ok reply
after_failed_write (Err fault.Memory) = Err fault.Memory
after_failed_write (Err other) = Err fault.Write
