-- What is read of a chunked body, or why there is none; how many bytes it may have is its caller's limit.
use Rattle.std.specs.Prelude.{◌+◌, ◌-◌, ◌<◌, ◌≤◌, ◌⊎◌, ℕ, List, ◌++◌, length, drop, Option, Result, Ok, Err, Vec}
use Rattle.std.specs.Io.KnownBytes.{Consumes}
use Rattle.httparse.specs.Grammar.{ChunkLine, chunk_size}
use Rattle.update_client.specs.declared.heads.fault.LinkFault.{LinkFault}
use Rattle.update_client.specs.declared.heads.fault.LinkFault.TheVariants as fault
use Rattle.update_client.specs.Chunks.{Chunk, ReadsAllChunks, ReadsChunked, ReadsChunks, ReadsLine, content_of}
use Rattle.update_client.specs.Reads.{Sees}
use Rattle.update_client.specs.Pieces.{EndFails, LineFails, TrailerFails}

-- why what follows the line of a chunk of that size isn't its bytes and CR LF, with room for so many bytes
abbrev pub ContentFails : ℕ → ℕ → List ℕ → LinkFault → Type 0
ContentFails room size bytes fault.Long = room < size
ContentFails room size bytes fault.Ended = (size ≤ room) × (length bytes < size + 2)
ContentFails room size bytes fault.BadChunk =
    (size ≤ room) × (size + 2 ≤ length bytes) × EndFails (drop size bytes) fault.BadChunk
ContentFails room size bytes other = ⊥

-- why the bytes don't begin with a chunk, and not with the last line either
abbrev pub ChunkFails : ℕ → List ℕ → LinkFault → Type 0
ChunkFails room bytes why = LineFails bytes why
    ⊎ ((line : ChunkLine) × (rest : List ℕ) × ReadsLine bytes line rest
    × (0 < chunk_size line) × ContentFails room (chunk_size line) rest why)

-- rule: Chunked body that is rejected
-- the bytes begin with chunks within the limit, and then why there is neither one more nor the last; or why there is no
-- trailer after the last
abbrev pub ChunkedFails : ℕ → List ℕ → LinkFault → Type 0
ChunkedFails limit bytes why =
    ((chunks : List Chunk) × (rest : List ℕ) × ReadsChunks bytes chunks rest
    × (length (content_of chunks) ≤ limit) × ChunkFails (limit - length (content_of chunks)) rest why)
    ⊎ ((content : List ℕ) × (rest : List ℕ) × ReadsAllChunks bytes content rest
    × (length content ≤ limit) × TrailerFails rest why)

-- what was read after the bytes that waited: a chunked body within the limit; or why there is none
abbrev pub ChunkedRead : {Z : Type 0} →
    ℕ → Option (List ℕ) → Option (List ℕ) → List ℕ → Result (Vec ℕ Z) LinkFault → Type 0
ChunkedRead limit old new before (Ok content) = (bytes : List ℕ) × (rest : List ℕ) × Consumes old new bytes
    × ReadsChunked (before ++ bytes) content.items rest × (length content.items ≤ limit)
ChunkedRead limit old new before (Err why) = Sees old new before (ChunkedFails limit) why
