-- What a link reads of a reply, and what it wrote before; this project's profile.
use Rattle.std.specs.Prelude.{◌≡◌, ◌<◌, ◌≤◌, ◌==◌, ◌⊎◌, if◌then◌else◌, ℕ, List, [], ◌++◌, length, Option, None, Some, Result, Ok, Err, Vec, ⊤}
use Rattle.std.specs.Io.KnownBytes.{Appends, Consumes, IsAtEnd, Keeps}
use Rattle.httparse.specs.Grammar.{ResponseHead, ReadsResponse, status_code}
use Rattle.http_wire.specs.Devices.{Came}
use Rattle.http_wire.specs.Sending.{AppendsPart}
use Rattle.update_client.specs.Lengths.{IsHeadFault}
use Rattle.update_client.specs.Starts.{StartFound, length_after}
use Rattle.update_client.specs.declared.heads.length.BodyLength.{BodyLength}
use Rattle.update_client.specs.declared.heads.length.BodyLength.TheVariants as lengths
use Rattle.update_client.specs.declared.heads.start.Start.{Start}
use Rattle.update_client.specs.declared.heads.fault.LinkFault.{LinkFault}
use Rattle.update_client.specs.declared.heads.fault.LinkFault.TheVariants as fault
use Rattle.update_client.specs.Chunks.{ReadsChunked}
use Rattle.update_client.specs.Failures.{ChunkedFails}
use Rattle.update_client.specs.Reads.{Sees}
use Rattle.update_client.specs.declared.posting.Reply.{Reply}

-- bytes that are a head with that status, which announces a body of that length, and then the rest
abbrev pub Announces : List ℕ → ℕ → BodyLength → List ℕ → Type 0
Announces bytes code size rest =
    (head : ResponseHead) × ReadsResponse bytes head rest × (status_code head ≡ code) × (length_after head ≡ Ok size)

-- why a head was not read: other bytes, or fewer
abbrev pub HeadFails : Option (List ℕ) → Option (List ℕ) → List ℕ → LinkFault → Type 0
HeadFails old new bytes fault.Ended = Consumes old new bytes × StartFound bytes (Ok None) × IsAtEnd new
HeadFails old new bytes fault.Memory = ⊤
HeadFails old new bytes fault.Read = ⊤
HeadFails old new bytes why = IsHeadFault why × Consumes old new bytes × StartFound bytes (Err why)

-- the bytes that were read begin with a head; or why not
abbrev pub HeadRead : Option (List ℕ) → Option (List ℕ) → List ℕ → Result Start LinkFault → Type 0
HeadRead old new bytes (Ok start) = Consumes old new bytes × StartFound bytes (Ok (Some start))
HeadRead old new bytes (Err why) = HeadFails old new bytes why

-- the rest of a body was read, up to its size; or why not
abbrev pub RestRead :
    Option (List ℕ) → Option (List ℕ) → List ℕ → List ℕ → ℕ → Result (Unit {0}) LinkFault → Type 0
RestRead old new before after size (Ok done) = Came old new before after × (length after ≡ size)
RestRead old new before after size (Err fault.Ended) =
    Came old new before after × (length after < size) × IsAtEnd new
RestRead old new before after size (Err fault.Memory) = ⊤
RestRead old new before after size (Err fault.Read) = ⊤
RestRead old new before after size (Err other) = ⊥

-- the bytes are a body of that length, and then the rest
abbrev pub HasBody : BodyLength → List ℕ → List ℕ → List ℕ → Type 0
HasBody (lengths.Known size) bytes content rest = (bytes ≡ content ++ rest) × (length content ≡ size)
HasBody lengths.Chunked bytes content rest = ReadsChunked bytes content rest

-- why the bytes don't begin with a body of that length within the limit
abbrev pub BodyFails : ℕ → BodyLength → List ℕ → LinkFault → Type 0
BodyFails limit (lengths.Known size) bytes fault.Long = limit < size
BodyFails limit (lengths.Known size) bytes fault.Ended = (size ≤ limit) × (length bytes < size)
BodyFails limit (lengths.Known size) bytes other = ⊥
BodyFails limit lengths.Chunked bytes why = ChunkedFails limit bytes why

-- what was read after the bytes that waited: a body of that length within the limit; or why there is none
abbrev pub BodyRead : {Z : Type 0} →
    ℕ → BodyLength → Option (List ℕ) → Option (List ℕ) → List ℕ → Result (Vec ℕ Z) LinkFault → Type 0
BodyRead limit size old new before (Ok content) = (bytes : List ℕ) × (rest : List ℕ) × Consumes old new bytes
    × HasBody size (before ++ bytes) content.items rest × (length content.items ≤ limit)
BodyRead limit size old new before (Err why) = Sees old new before (BodyFails limit size) why

-- why the bytes don't begin with a head that is accepted: they are fewer, or the head is rejected
abbrev pub StartFails : List ℕ → LinkFault → Type 0
StartFails bytes fault.Ended = StartFound bytes (Ok None)
StartFails bytes why = IsHeadFault why × StartFound bytes (Err why)

-- why the bytes don't begin with a reply: there is no head, or no body of the length that it announces
abbrev pub ReplyFails : ℕ → List ℕ → LinkFault → Type 0
ReplyFails limit bytes why = StartFails bytes why
    ⊎ ((code : ℕ) × (size : BodyLength) × (rest : List ℕ) × Announces bytes code size rest × BodyFails limit size rest why)

-- rule: Reply that a link reads
-- the status and the body that the head announces, whole; or why there is none: it is longer than the limit, among others
abbrev pub ReplyRead : ℕ → Option (List ℕ) → Option (List ℕ) → Result Reply LinkFault → Type 0
ReplyRead limit old new (Ok reply) = (bytes : List ℕ) × (size : BodyLength) × (after : List ℕ) × (rest : List ℕ)
    × Consumes old new bytes × Announces bytes reply.status size after × HasBody size after reply.body.items rest
    × (length reply.body.items ≤ limit)
ReplyRead limit old new (Err why) = Sees old new [] (ReplyFails limit) why

-- a fault of a post to a host: one that neither an address nor the status of a reply can be
abbrev pub IsPostFault : LinkFault → Type 0
IsPostFault fault.Address = ⊥
IsPostFault fault.Status = ⊥
IsPostFault other = ⊤

-- the body of a reply keeps to the limit, whatever its status; or why there is no reply
abbrev pub PostedWithin : ℕ → Result Reply LinkFault → Type 0
PostedWithin limit (Ok reply) = length reply.body.items ≤ limit
PostedWithin limit (Err why) = IsPostFault why

-- a reply with the status 200, and no other
abbrev pub accepted_reply : Reply → Result Reply LinkFault
accepted_reply reply = if reply.status == 200 then Ok reply else Err fault.Status

-- rule: Request that a link writes
-- the request was written whole; or memory ran out before it; or a write failed
abbrev pub RequestWritten :
    {A : Type 0} → Option (List ℕ) → Option (List ℕ) → List ℕ → Result A LinkFault → Type 0
RequestWritten old new text (Ok done) = Appends old new text
RequestWritten old new text (Err fault.Memory) = Appends old new text ⊎ Keeps old new
RequestWritten old new text (Err fault.Write) = AppendsPart old new text
RequestWritten old new text (Err other) = Appends old new text

-- how many writes failed
abbrev pub failed_writes : {A : Type 0} → Result A LinkFault → ℕ
failed_writes (Err fault.Write) = 1
failed_writes other = 0
