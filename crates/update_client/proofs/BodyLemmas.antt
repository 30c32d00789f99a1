-- Chunks, the last one and the trailer, one after the other, and why what follows some of them isn't the next.
use Rattle.std.proofs.Common.{◌≡◌, ℕ, ◌-◌, ◌≤◌, List, [], ◌∷◌, ◌++◌, length, All, Option, inl, inr, refl, subst, ap, ◌∙◌, append_assoc}
use Rattle.std.proofs.lemmas.List.{flat_map_more}
use Rattle.std.proofs.lemmas.List.Elements.{All-append, All-cons, All-nil}
use Rattle.std.specs.List.{flat_map}
use Rattle.std.specs.Io.KnownBytes.{Consumes}
use Rattle.httparse.specs.Grammar.{ChunkLine, chunk_size, print_chunk_line}
use Rattle.update_client.specs.declared.heads.fault.LinkFault.{LinkFault}
use Rattle.update_client.specs.Chunks.{Chunk, IsChunk, IsLine, ReadsAllChunks, ReadsChunked, ReadsTrailer, content_of, print_chunk}
use Rattle.update_client.specs.Failures.{ChunkFails, ChunkedFails}
use Rattle.update_client.specs.Pieces.{TrailerFails}
use Rattle.update_client.specs.Reads.{Sees, Uses}
use Rattle.update_client.proofs.ReadsLemmas.{Consumes-then, Sees-after, Uses-then, seen_after}

-- one more chunk
pub chunks_more :
    (chunks : List Chunk) (chunk : Chunk) → All IsChunk chunks → IsChunk chunk → All IsChunk (chunks ++ chunk ∷ [])
chunks_more chunks chunk valid more =
    All-append IsChunk chunks (chunk ∷ []) valid (All-cons IsChunk chunk [] more (All-nil IsChunk))

pub used_more :
    (old mid new : Option (List ℕ)) (before between after : List ℕ) (chunks : List Chunk) (chunk : Chunk) →
    Uses old mid before between (flat_map print_chunk chunks) →
    Uses mid new between after (print_chunk chunk) →
    Uses old new before after (flat_map print_chunk (chunks ++ chunk ∷ []))
used_more old mid new before between after chunks chunk one two =
    subst (Uses old new before after) (flat_map_more print_chunk [] chunks chunk)
    (Uses-then old mid new before between after (flat_map print_chunk chunks) (print_chunk chunk) one two)

pub content_more :
    (chunks : List Chunk) (chunk : Chunk) (body grown : List ℕ) →
    body ≡ content_of chunks →
    grown ≡ body ++ chunk.content →
    grown ≡ content_of (chunks ++ chunk ∷ [])
content_more chunks chunk body grown has put =
    put
    ∙ ap (λ (front : List ℕ). front ++ chunk.content) has
    ∙ flat_map_more (λ (c : Chunk). c.content) [] chunks chunk

-- there is neither one more chunk nor the last
pub chunks_then_fails :
    (old mid new : Option (List ℕ)) (before between : List ℕ) (chunks : List Chunk) (limit : ℕ) (body : List ℕ) (why : LinkFault) →
    All IsChunk chunks →
    body ≡ content_of chunks →
    length body ≤ limit →
    Uses old mid before between (flat_map print_chunk chunks) →
    Sees mid new between (ChunkFails (limit - length body)) why →
    Sees old new before (ChunkedFails limit) why
chunks_then_fails old mid new before between chunks limit body why valid has fits uses sees =
    Sees-after old mid new before between (flat_map print_chunk chunks) (ChunkFails (limit - length body)) (ChunkedFails limit) why uses
    (λ bytes fails.
    inl (
      chunks,
      bytes,
      record { valid = valid; cut = refl },
      subst (λ (text : List ℕ). length text ≤ limit) has fits,
      subst (λ (text : List ℕ). ChunkFails (limit - length text) bytes why) has fails,
    ))
    sees

-- the chunks and the last one
all_chunks :
    (chunks : List Chunk) (content : List ℕ) (last : ChunkLine) (rest : List ℕ) →
    All IsChunk chunks →
    content ≡ content_of chunks →
    IsLine last →
    chunk_size last ≡ 0 →
    ReadsAllChunks ((flat_map print_chunk chunks ++ print_chunk_line last) ++ rest) content rest
all_chunks chunks content last rest valid has ends empty = record {
  chunks = chunks;
  after = print_chunk_line last ++ rest;
  last = last;
  reads = record { valid = valid; cut = append_assoc (flat_map print_chunk chunks) (print_chunk_line last) rest };
  has = has;
  ends = record { valid = ends; cut = refl };
  empty = empty;
}

-- there is no trailer after the last
pub last_then_fails :
    (old mid new : Option (List ℕ)) (before between : List ℕ) (chunks : List Chunk) (last : ChunkLine) (limit : ℕ) (body : List ℕ) (why : LinkFault) →
    All IsChunk chunks →
    body ≡ content_of chunks →
    IsLine last →
    chunk_size last ≡ 0 →
    length body ≤ limit →
    Uses old mid before between (flat_map print_chunk chunks ++ print_chunk_line last) →
    Sees mid new between TrailerFails why →
    Sees old new before (ChunkedFails limit) why
last_then_fails old mid new before between chunks last limit body why valid has ends empty fits uses sees =
    Sees-after old mid new before between (flat_map print_chunk chunks ++ print_chunk_line last) TrailerFails (ChunkedFails limit) why uses
    (λ bytes fails. inr (body, bytes, all_chunks chunks body last bytes valid has ends empty, fits, fails))
    sees

-- the whole body
pub body_read :
    (old mid new : Option (List ℕ)) (before between bytes rest : List ℕ) (chunks : List Chunk) (last : ChunkLine) (body : List ℕ) →
    All IsChunk chunks →
    body ≡ content_of chunks →
    IsLine last →
    chunk_size last ≡ 0 →
    Uses old mid before between (flat_map print_chunk chunks ++ print_chunk_line last) →
    Consumes mid new bytes →
    ReadsTrailer (between ++ bytes) rest →
    (all : List ℕ) × Consumes old new all × ReadsChunked (before ++ all) body rest
body_read old mid new before between bytes rest chunks last body valid has ends empty uses consumed reads =
    let text = flat_map print_chunk chunks ++ print_chunk_line last in (
      uses.bytes ++ bytes,
      Consumes-then old mid new uses.bytes bytes uses.consumed consumed,
      (
        between ++ bytes,
        subst (λ (whole : List ℕ). ReadsAllChunks whole body (between ++ bytes))
            (seen_after before uses.bytes text between bytes uses.cut)
            (all_chunks chunks body last (between ++ bytes) valid has ends empty),
        reads,
      ),
    )
