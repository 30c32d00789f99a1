-- What is at the front of bytes that are read piece by piece: a whole piece, or why there is none.
use Rattle.std.specs.Prelude.{◌≡◌, ◌≢◌, ◌<◌, ◌≤◌, ◌⊎◌, ℕ, List, ◌++◌, length, take, drop, Option, None, Some, Result, Ok, Err}
use Rattle.httparse.specs.Ascii.{crlf_bytes}
use Rattle.httparse.specs.Grammar.{ChunkLine, chunk_size, HasNoChunkLine, MayBecomeChunkLine, NeverHasChunkLine, HasNoSection, MayBecomeSection, NeverHasSection}
use Rattle.httparse.specs.Spans.{SectionExceeds}
use Rattle.update_client.specs.declared.heads.fault.LinkFault.{LinkFault}
use Rattle.update_client.specs.declared.heads.fault.LinkFault.TheVariants as fault
use Rattle.update_client.specs.Chunks.{ReadsLine, ReadsTrailer}
use Rattle.update_client.specs.declared.chunked.piece.Piece.{Piece}
use Rattle.update_client.specs.declared.chunked.piece.Piece.TheVariants as piece

-- why the bytes don't begin with the line of a chunk: they are fewer, other bytes, or more
abbrev pub LineFails : List ℕ → LinkFault → Type 0
LineFails bytes fault.Ended = (length bytes < 256) × HasNoChunkLine bytes × MayBecomeChunkLine bytes
LineFails bytes fault.BadChunk = NeverHasChunkLine bytes
LineFails bytes fault.LongChunkLine = (256 ≤ length bytes) × HasNoChunkLine (take 256 bytes)
LineFails bytes other = ⊥

-- why the bytes don't begin with CR LF: they are fewer, or others
abbrev pub EndFails : List ℕ → LinkFault → Type 0
EndFails bytes fault.Ended = length bytes < 2
EndFails bytes fault.BadChunk = (2 ≤ length bytes) × (take 2 bytes ≢ crlf_bytes)
EndFails bytes other = ⊥

-- why the bytes don't begin with a trailer: they are fewer, other bytes, or more, or there are more than 100 fields
abbrev pub TrailerFails : List ℕ → LinkFault → Type 0
TrailerFails bytes fault.Ended = (length bytes < 16384) × HasNoSection bytes × MayBecomeSection bytes
TrailerFails bytes fault.BadTrailer = NeverHasSection bytes
TrailerFails bytes fault.LongTrailer =
    ((16384 ≤ length bytes) × HasNoSection (take 16384 bytes)) ⊎ SectionExceeds 100 bytes
TrailerFails bytes other = ⊥

-- why the bytes don't begin with that piece
abbrev pub PieceFails : Piece → List ℕ → LinkFault → Type 0
PieceFails piece.Line bytes why = LineFails bytes why
PieceFails piece.End bytes why = EndFails bytes why
PieceFails piece.Trailer bytes why = TrailerFails bytes why

-- the bytes are that piece, and then the rest; the line of a chunk says that size, and other pieces none
abbrev pub IsPiece : Piece → List ℕ → ℕ → List ℕ → Type 0
IsPiece piece.Line bytes size rest = (line : ChunkLine) × ReadsLine bytes line rest × (chunk_size line ≡ size)
IsPiece piece.End bytes size rest = bytes ≡ crlf_bytes ++ rest
IsPiece piece.Trailer bytes size rest = ReadsTrailer bytes rest

-- the piece at the front: how many bytes it has, and its size; less than a piece; or why there is none
abbrev pub PieceFound : Piece → List ℕ → Result (Option (ℕ × ℕ)) LinkFault → Type 0
PieceFound piece bytes (Ok (Some found)) = (found.0 ≤ length bytes) × IsPiece piece bytes found.1 (drop found.0 bytes)
PieceFound piece bytes (Ok None) = PieceFails piece bytes fault.Ended
PieceFound piece bytes (Err why) = (why ≢ fault.Ended) × PieceFails piece bytes why
