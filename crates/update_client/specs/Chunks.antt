-- A body in the chunked transfer coding (RFC 9112, section 7.1). The lines of chunks and the trailer fields are those of the
-- grammar of `httparse`; how long they may be is this project's profile.
use Rattle.std.specs.Prelude.{◌≡◌, ◌<◌, ◌≤◌, ℕ, List, ◌++◌, length, All}
use Rattle.std.specs.List.{flat_map}
use Rattle.httparse.specs.Ascii.{crlf_bytes}
use Rattle.httparse.specs.Grammar.{ChunkLine, IsChunkLine, chunk_size, print_chunk_line, Field, LineEnd, IsField, print_section}

-- the line of a chunk is valid, and has at most 256 bytes
pub record IsLine (line : ChunkLine) : Type 0 where
  pub valid : IsChunkLine line
  pub short : length (print_chunk_line line) ≤ 256

-- a chunk of one byte or more
pub record Chunk : Type 0 where
  pub line : ChunkLine
  pub content : List ℕ

-- its line says how many bytes it has
pub record IsChunk (chunk : Chunk) : Type 0 where
  pub line : IsLine chunk.line
  pub size : chunk_size chunk.line ≡ length chunk.content
  pub some : 0 < length chunk.content

-- its line, its bytes, and CR LF
abbrev pub print_chunk : Chunk → List ℕ
print_chunk chunk = print_chunk_line chunk.line ++ (chunk.content ++ crlf_bytes)

-- the bytes that chunks have
abbrev pub content_of : List Chunk → List ℕ
content_of chunks = flat_map (λ chunk. chunk.content) chunks

-- the bytes are these chunks, and then the rest
pub record ReadsChunks (bytes : List ℕ) (chunks : List Chunk) (rest : List ℕ) : Type 0 where
  pub valid : All IsChunk chunks
  pub cut : bytes ≡ flat_map print_chunk chunks ++ rest

-- the bytes are the line of a chunk, and then the rest
pub record ReadsLine (bytes : List ℕ) (line : ChunkLine) (rest : List ℕ) : Type 0 where
  pub valid : IsLine line
  pub cut : bytes ≡ print_chunk_line line ++ rest

-- trailer fields are valid; with their empty line they have at most 16384 bytes, and there are at most 100
pub record IsTrailer (fields : List Field) (last : LineEnd) : Type 0 where
  pub valid : All IsField fields
  pub short : length (print_section fields last) ≤ 16384
  pub few : length fields ≤ 100

-- the bytes are trailer fields and an empty line, and then the rest
pub record ReadsTrailer (bytes rest : List ℕ) : Type 0 where
  pub fields : List Field
  pub last : LineEnd
  pub valid : IsTrailer fields last
  pub cut : bytes ≡ print_section fields last ++ rest

-- the bytes are chunks, and then the line of a chunk without bytes, which is the last
pub record ReadsAllChunks (bytes content rest : List ℕ) : Type 0 where
  pub chunks : List Chunk
  pub after : List ℕ
  pub last : ChunkLine
  pub reads : ReadsChunks bytes chunks after
  pub has : content ≡ content_of chunks
  pub ends : ReadsLine after last rest
  pub empty : chunk_size last ≡ 0

-- rule: Chunked body
-- the bytes are chunks with that content, the last chunk, trailer fields and an empty line, and then the rest
abbrev pub ReadsChunked : List ℕ → List ℕ → List ℕ → Type 0
ReadsChunked bytes content rest =
    (trailer : List ℕ) × ReadsAllChunks bytes content trailer × ReadsTrailer trailer rest
