-- What is read of the first bytes is at the front of all of them.
use Rattle.std.proofs.Common.{◌≡◌, ℕ, ◌≤◌, List, ◌++◌, length, take, drop, min, sym, subst, ap, ◌∙◌, arith, append_assoc, length-append}
use Rattle.std.proofs.lemmas.List.{take-append-drop, drop_at, length-take-le}
use Rattle.httparse.specs.Grammar.{ChunkLine, NeverHasChunkLine, NeverHasSection, ReadsChunkLine, ReadsSection, chunk_size, print_chunk_line}
use Rattle.httparse.specs.Spans.{IsChunkLineAt, SectionExceeds}
use Rattle.update_client.specs.Chunks.{ReadsLine}

-- more bytes come after what is read
pub cut_more :
    (front behind used rest : List ℕ) → front ≡ used ++ rest → front ++ behind ≡ used ++ (rest ++ behind)
cut_more front behind used rest cut =
    ap (λ (text : List ℕ). text ++ behind) cut ∙ append_assoc used rest behind

-- the bytes after what is read
drop_cut :
    (bytes used rest : List ℕ) (count : ℕ) → bytes ≡ used ++ rest → count ≡ length used → drop count bytes ≡ rest
drop_cut bytes used rest count cut long = ap (drop count) cut ∙ drop_at used rest count (sym long)

pub of_front :
    (n count : ℕ) (bytes used : List ℕ) →
    take n bytes ≡ used ++ drop count (take n bytes) →
    count ≡ length used →
    bytes ≡ used ++ drop count bytes
of_front n count bytes used cut long =
    let whole : bytes ≡ used ++ (drop count (take n bytes) ++ drop n bytes) =
    sym (take-append-drop n bytes) ∙ cut_more (take n bytes) (drop n bytes) used (drop count (take n bytes)) cut in
    whole ∙ ap (λ (rest : List ℕ). used ++ rest) (sym (drop_cut bytes used _ count whole long))

-- the line is one of all bytes
pub line_found :
    (n count size : ℕ) (bytes : List ℕ) (line : ChunkLine) →
    n ≡ min (length bytes) 256 →
    IsChunkLineAt (take n bytes) count size line →
    (count ≤ length bytes) × ((x : ChunkLine) × ReadsLine bytes x (drop count bytes) × (chunk_size x ≡ size))
line_found n count size bytes line front at =
    let text = print_chunk_line line in
    let whole = of_front n count bytes text at.reads.1 at.len_is in
    let held = length-take-le n bytes (omega (arith, front)) in
    let parts = length-append text (drop count (take n bytes)) in
    let cut = ap length at.reads.1 in (
      omega (arith, at.len_is, ap length whole, length-append text (drop count bytes)),
      (
        line,
        record {
          valid = record { valid = at.reads.0; short = omega (arith, front, held, parts, cut) };
          cut = whole;
        },
        sym at.size_is,
      ),
    )

same_front : (n : ℕ) (bytes more : List ℕ) → bytes ++ more ≡ take n bytes ++ (drop n bytes ++ more)
same_front n bytes more =
    ap (λ (text : List ℕ). text ++ more) (sym (take-append-drop n bytes))
    ∙ append_assoc (take n bytes) (drop n bytes) more

pub never_line : (n : ℕ) (bytes : List ℕ) → NeverHasChunkLine (take n bytes) → NeverHasChunkLine bytes
never_line n bytes never more line rest reads =
    never (drop n bytes ++ more) line rest
    (subst (λ (text : List ℕ). ReadsChunkLine text line rest) (same_front n bytes more) reads)

pub never_section : (n : ℕ) (bytes : List ℕ) → NeverHasSection (take n bytes) → NeverHasSection bytes
never_section n bytes never more fields last rest reads =
    never (drop n bytes ++ more) fields last rest
    (subst (λ (text : List ℕ). ReadsSection text fields last rest) (same_front n bytes more) reads)

pub exceeds_more : (n : ℕ) (bytes : List ℕ) → SectionExceeds 100 (take n bytes) → SectionExceeds 100 bytes
exceeds_more n bytes (front, rest, cut, fields, reads, over) =
    (front, rest ++ drop n bytes, sym (take-append-drop n bytes) ∙ cut_more (take n bytes) (drop n bytes) front rest cut, fields, reads, over)

-- as many bytes as a piece may have
pub full_front : (n most : ℕ) (bytes : List ℕ) → n ≡ min (length bytes) most → most ≤ length bytes → n ≡ most
full_front n most bytes front long = omega (arith, front)
