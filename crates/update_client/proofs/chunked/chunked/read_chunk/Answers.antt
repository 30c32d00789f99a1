use Rattle.std.proofs.Common.{length, sym, ap, ◌∙◌, arith, length-append}
use Rattle.std.proofs.lemmas.Result.{err_from_is_err_and}
use Rattle.update_client.proofs.ChunkLemmas.{chunk_used, line_used, short_fails, unended_fails}
use Rattle.update_client.proofs.ReadsLemmas.{Uses-then}
use Rattle.update_client.proofs.chunked.chunked.read_chunk.Goals as goal

pub returns-in_err-read_content-clause-read : goal.returns-in_err-read_content-clause-read
returns-in_err-read_content-clause-read g c =
    let (bytes, consumed, (line, reads, says)) = c.in_ok-size.ensures.read in
    let p = err_from_is_err_and c.from_residual-in_err-read_content.result c.from_residual-in_err-read_content.ensures.1 in
    rw (p.1, p.2)
    (short_fails _ _ _ _ _ _ c.in_ok-size.size line _ reads.valid says (omega arith) (omega (arith, c.len.ensures))
    (line_used _ _ _ _ bytes line consumed reads) c.in_err-read_content.ensures.read)

pub returns-in_err-read_piece-clause-read : goal.returns-in_err-read_piece-clause-read
returns-in_err-read_piece-clause-read g c =
    let (bytes, consumed, (line, reads, says)) = c.in_ok-size.ensures.read in
    let (content, moved, long, grown) = c.in_ok-read_content.ensures.read in
    let p = err_from_is_err_and c.from_residual-in_err-read_piece.result c.from_residual-in_err-read_piece.ensures.1 in
    rw (p.1, p.2)
    (unended_fails _ _ _ _ _ content _ c.in_ok-size.size line _ reads.valid says (omega arith) (omega (arith, c.len.ensures)) long
    (Uses-then _ _ _ _ _ _ _ _ (line_used _ _ _ _ bytes line consumed reads) moved) c.in_err-read_piece.ensures.read)

pub returns-clause-read : goal.returns-clause-read
returns-clause-read g c =
    let (bytes, consumed, (line, reads, says)) = c.in_ok-size.ensures.read in
    let (content, moved, long, grown) = c.in_ok-read_content.ensures.read in
    let (last, ended, cut) = c.in_ok-read_piece.ensures.read in (
      record { line = line; content = content },
      record {
        line = reads.valid;
        size = says ∙ sym long;
        some = omega (arith, long);
      },
      chunk_used _ _ _ _ _ _ _ _ content last line (line_used _ _ _ _ bytes line consumed reads) moved ended cut,
      grown,
      omega (arith, ap length grown, length-append c.args.body.now.items content, long, c.len.ensures, c.requires.room),
    )
