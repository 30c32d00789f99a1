-- What each step of reading a chunked body leaves: of the bytes that waited and those that were read after them.
use Rattle.std.specs.Prelude.{◌≡◌, ◌-◌, ◌<◌, ◌≤◌, ℕ, Bool, true, false, List, [], ◌++◌, length, Option, Result, Ok, Err}
use Rattle.std.specs.Io.KnownBytes.{Consumes}
use Rattle.httparse.specs.Grammar.{ChunkLine, chunk_size, print_chunk_line}
use Rattle.update_client.specs.declared.heads.fault.LinkFault.{LinkFault}
use Rattle.update_client.specs.declared.heads.fault.LinkFault.TheVariants as fault
use Rattle.update_client.specs.Chunks.{Chunk, IsChunk, IsLine, print_chunk}
use Rattle.update_client.specs.Failures.{ChunkFails}
use Rattle.update_client.specs.Pieces.{IsPiece, PieceFails}
use Rattle.update_client.specs.Reads.{Sees, Uses}
use Rattle.update_client.specs.declared.chunked.piece.Piece.{Piece}

-- the piece was used; or why there is none
abbrev pub PieceRead : Piece → Option (List ℕ) → Option (List ℕ) → List ℕ → List ℕ → Result ℕ LinkFault → Type 0
PieceRead piece old new before after (Ok size) =
    (bytes : List ℕ) × Consumes old new bytes × IsPiece piece (before ++ bytes) size after
PieceRead piece old new before after (Err why) = Sees old new before (PieceFails piece) why

-- the bytes are fewer
abbrev pub IsShort : ℕ → List ℕ → LinkFault → Type 0
IsShort size bytes fault.Ended = length bytes < size
IsShort size bytes other = ⊥

-- the bytes that wait were read; or there are none
abbrev pub ByteAwaited : Option (List ℕ) → Option (List ℕ) → List ℕ → List ℕ → Result (Unit {0}) LinkFault → Type 0
ByteAwaited old new before after (Ok done) = Uses old new before after []
ByteAwaited old new before after (Err why) = Sees old new before (IsShort 1) why

-- bytes of that number were used, and are at the end of the body; or the input ended before
abbrev pub ContentRead : ℕ → Option (List ℕ) → Option (List ℕ) → List ℕ → List ℕ → List ℕ → List ℕ → Result (Unit {0}) LinkFault → Type 0
ContentRead size old new before after body grown (Ok done) =
    (content : List ℕ) × Uses old new before after content × (length content ≡ size) × (grown ≡ body ++ content)
ContentRead size old new before after body grown (Err why) = Sees old new before (IsShort size) why

-- a chunk was used, and its bytes are at the end of the body; or the last line was; or why neither
abbrev pub ChunkRead : ℕ → Option (List ℕ) → Option (List ℕ) → List ℕ → List ℕ → List ℕ → List ℕ → Result Bool LinkFault → Type 0
ChunkRead limit old new before after body grown (Ok true) =
    (chunk : Chunk) × IsChunk chunk × Uses old new before after (print_chunk chunk)
    × (grown ≡ body ++ chunk.content) × (length grown ≤ limit)
ChunkRead limit old new before after body grown (Ok false) =
    (last : ChunkLine) × IsLine last × (chunk_size last ≡ 0) × Uses old new before after (print_chunk_line last)
    × (grown ≡ body)
ChunkRead limit old new before after body grown (Err why) = Sees old new before (ChunkFails (limit - length body)) why
