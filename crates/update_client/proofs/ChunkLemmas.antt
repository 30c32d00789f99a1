-- A chunk in its parts, and why what follows some of them isn't the next.
use Rattle.std.proofs.Common.{◌≡◌, ℕ, ◌<◌, ◌≤◌, List, [], ◌++◌, length, take, drop, Option, inr, refl, sym, subst, ap, ◌∙◌, arith, append_assoc, length-append}
use Rattle.std.proofs.lemmas.List.{drop_at}
use Rattle.std.specs.Io.KnownBytes.{Consumes}
use Rattle.httparse.specs.Ascii.{crlf_bytes}
use Rattle.httparse.specs.Grammar.{ChunkLine, chunk_size, print_chunk_line}
use Rattle.update_client.specs.declared.heads.fault.LinkFault.{LinkFault}
use Rattle.update_client.specs.declared.heads.fault.LinkFault.TheVariants as fault
use Rattle.update_client.specs.Chunks.{IsLine, ReadsLine, print_chunk}
use Rattle.update_client.specs.Failures.{ChunkFails, ContentFails}
use Rattle.update_client.specs.PieceReads.{IsShort}
use Rattle.update_client.specs.Pieces.{EndFails, PieceFails}
use Rattle.update_client.specs.Reads.{Sees, Uses}
use Rattle.update_client.specs.declared.chunked.piece.Piece.{Piece}
use Rattle.update_client.specs.declared.chunked.piece.Piece.TheVariants as piece
use Rattle.update_client.proofs.ReadsLemmas.{Sees-after, Uses-front, Uses-then}

-- bytes that are used after those of a content
pub content_grows :
    (old mid new : Option (List ℕ)) (before between waiting after content : List ℕ) (count : ℕ) →
    Uses old mid before between content →
    Uses mid new between waiting [] →
    after ≡ drop count waiting →
    Uses old new before after (content ++ take count waiting)
content_grows old mid new before between waiting after content count uses awaited rest =
    let front = subst (λ (left : List ℕ). Uses new new waiting left (take count waiting)) (sym rest) (Uses-front new waiting count) in
    Uses-then old mid new before between after content (take count waiting) uses
    (Uses-then mid new new between waiting after [] (take count waiting) awaited front)

-- they are at the end of the body
pub content_put :
    (start before after content seen waiting : List ℕ) (count : ℕ) →
    after ≡ before ++ take count seen →
    seen ≡ waiting →
    before ≡ start ++ content →
    after ≡ start ++ (content ++ take count waiting)
content_put start before after content seen waiting count put same grown =
    put
    ∙ ap (λ (bytes : List ℕ). before ++ take count bytes) same
    ∙ ap (λ (front : List ℕ). front ++ take count waiting) grown
    ∙ append_assoc start content (take count waiting)

-- the line is used
pub line_used :
    (old mid : Option (List ℕ)) (before between bytes : List ℕ) (line : ChunkLine) →
    Consumes old mid bytes →
    ReadsLine (before ++ bytes) line between →
    Uses old mid before between (print_chunk_line line)
line_used old mid before between bytes line consumed reads =
    record { bytes = bytes; consumed = consumed; cut = reads.cut }

-- what follows a line isn't the rest of its chunk
after_line :
    (room size : ℕ) (line : ChunkLine) (rest : List ℕ) (why : LinkFault) →
    IsLine line →
    chunk_size line ≡ size →
    0 < size →
    ContentFails room size rest why →
    ChunkFails room (print_chunk_line line ++ rest) why
after_line room size line rest why valid says some fails = inr (
  line,
  rest,
  record { valid = valid; cut = refl },
  subst (λ n. 0 < n) (sym says) some,
  subst (λ n. ContentFails room n rest why) (sym says) fails,
)

content_short :
    (room size : ℕ) (bytes : List ℕ) (why : LinkFault) →
    size ≤ room →
    IsShort size bytes why →
    ContentFails room size bytes why
content_short room size bytes fault.Ended fits short = (fits, omega (arith, short))
content_short room size bytes why fits short = absurd short

end_fails :
    (room size : ℕ) (content bytes : List ℕ) (why : LinkFault) →
    size ≤ room →
    length content ≡ size →
    EndFails bytes why →
    ContentFails room size (content ++ bytes) why
end_fails room size content bytes fault.Ended fits long fails =
    (fits, omega (arith, fails, long, length-append content bytes))
end_fails room size content bytes fault.BadChunk fits long fails = (
  fits,
  omega (arith, fails.0, long, length-append content bytes),
  subst (λ (rest : List ℕ). EndFails rest fault.BadChunk) (sym (drop_at content bytes size long)) fails,
)
end_fails room size content bytes why fits long fails = absurd fails

-- the bytes of a chunk aren't whole
pub short_fails :
    (old mid new : Option (List ℕ)) (before between : List ℕ) (room size : ℕ) (line : ChunkLine) (why : LinkFault) →
    IsLine line →
    chunk_size line ≡ size →
    0 < size →
    size ≤ room →
    Uses old mid before between (print_chunk_line line) →
    Sees mid new between (IsShort size) why →
    Sees old new before (ChunkFails room) why
short_fails old mid new before between room size line why valid says some fits uses sees =
    Sees-after old mid new before between (print_chunk_line line) (IsShort size) (ChunkFails room) why uses
    (λ bytes short. after_line room size line bytes why valid says some (content_short room size bytes why fits short))
    sees

-- the end of a chunk isn't there
pub unended_fails :
    (old mid new : Option (List ℕ)) (before between content : List ℕ) (room size : ℕ) (line : ChunkLine) (why : LinkFault) →
    IsLine line →
    chunk_size line ≡ size →
    0 < size →
    size ≤ room →
    length content ≡ size →
    Uses old mid before between (print_chunk_line line ++ content) →
    Sees mid new between (PieceFails piece.End) why →
    Sees old new before (ChunkFails room) why
unended_fails old mid new before between content room size line why valid says some fits long uses sees =
    let text = print_chunk_line line in
    Sees-after old mid new before between (text ++ content) (PieceFails piece.End) (ChunkFails room) why uses
    (λ bytes fails.
    subst (λ (all : List ℕ). ChunkFails room all why) (sym (append_assoc text content bytes))
    (after_line room size line (content ++ bytes) why valid says some
    (end_fails room size content bytes why fits long fails)))
    sees

-- the line, the bytes and the end of a chunk are used
pub chunk_used :
    (old first mid new : Option (List ℕ)) (before one two after content bytes : List ℕ) (line : ChunkLine) →
    Uses old first before one (print_chunk_line line) →
    Uses first mid one two content →
    Consumes mid new bytes →
    two ++ bytes ≡ crlf_bytes ++ after →
    Uses old new before after (print_chunk (record { line = line; content = content }))
chunk_used old first mid new before one two after content bytes line reads moved consumed cut =
    let ended : Uses mid new two after crlf_bytes = record { bytes = bytes; consumed = consumed; cut = cut } in
    Uses-then old first new before one after (print_chunk_line line) (content ++ crlf_bytes) reads
    (Uses-then first mid new one two after content crlf_bytes moved ended)
