use Rattle.std.proofs.Common.{ℕ, List, [], ◌∷◌, ◌++◌, length, drop, refl, sym, subst, ap, ◌∙◌, arith}
use Rattle.std.proofs.lemmas.Result.{err_from_is_err_and}
use Rattle.std.proofs.lemmas.List.Elements.{All-nil}
use Rattle.update_client.specs.Chunks.{IsChunk}
use Rattle.update_client.specs.Reads.{Uses}
use Rattle.update_client.proofs.BodyLemmas.{body_read, chunks_more, chunks_then_fails, content_more, last_then_fails, used_more}
use Rattle.update_client.proofs.ReadsLemmas.{Uses-none, Uses-then}
use Rattle.update_client.proofs.chunked.chunked.read_chunked.Goals as goal

pub chunks-init : goal.chunks-init
chunks-init g c =
    let known = g.S.Source.remaining c.args.source.now in
    let before = drop c.args.at c.args.held.items in (
      (
        [],
        All-nil IsChunk,
        subst (λ (waiting : List ℕ). Uses known known before waiting []) (sym c.new-waiting.ensures) (Uses-none known before),
        c.new-body.ensures.items,
      ),
      omega (arith, c.new-body.ensures.len),
      refl,
      c.requires.block,
    )

pub returns-in_err-read_chunk-clause-read : goal.returns-in_err-read_chunk-clause-read
returns-in_err-read_chunk-clause-read g c =
    let (chunks, valid, uses, has) = c.chunks.invariant.0 in
    let p = err_from_is_err_and c.from_residual.result c.from_residual.ensures.1 in
    rw (p.1, p.2)
    (chunks_then_fails _ _ _ _ _ chunks c.args.limit c.chunks.body.items _ valid has (omega (arith, c.chunks.invariant.1, c.chunks.body.ok.0)) uses c.in_err-read_chunk.ensures.read)

pub chunks-preserved : goal.chunks-preserved
chunks-preserved g c =
    let (chunks, valid, uses, has) = c.chunks.invariant.0 in
    let (chunk, more, used, grown, fits) = rw c.if-not-branch.false at c.in_ok-read_chunk.ensures.read in (
      (
        chunks ++ chunk ∷ [],
        chunks_more chunks chunk valid more,
        used_more _ _ _ _ _ _ chunks chunk uses used,
        content_more chunks chunk c.chunks.body.items c.read_chunk.new.body.items has grown,
      ),
      omega (arith, fits, c.read_chunk.new.body.ok.0),
      omega (arith, c.in_ok-read_chunk.ensures.failed, c.chunks.invariant.2),
      omega (arith, c.in_ok-read_chunk.ensures.block, c.chunks.invariant.3),
    )

pub returns-in_err-read_piece-clause-read : goal.returns-in_err-read_piece-clause-read
returns-in_err-read_piece-clause-read g c =
    let (chunks, valid, uses, has) = c.chunks.invariant.0 in
    let (last, ends, empty, used, same) = rw c.if-not-branch.true at c.in_ok-read_chunk.ensures.read in
    let p = err_from_is_err_and c.from_residual-in_err-read_piece.result c.from_residual-in_err-read_piece.ensures.1 in
    rw (p.1, p.2)
    (last_then_fails _ _ _ _ _ chunks last c.args.limit c.chunks.body.items _ valid has ends empty
    (omega (arith, c.chunks.invariant.1, c.chunks.body.ok.0)) (Uses-then _ _ _ _ _ _ _ _ uses used) c.in_err-read_piece.ensures.read)

pub returns-clause-read : goal.returns-clause-read
returns-clause-read g c =
    let (chunks, valid, uses, has) = c.chunks.invariant.0 in
    let (last, ends, empty, used, same) = rw c.if-not-branch.true at c.in_ok-read_chunk.ensures.read in
    let (bytes, consumed, reads) = c.in_ok-read_piece.ensures.read in
    let (all, came, whole) = body_read _ _ _ _ _ bytes _ chunks last c.read_chunk.new.body.items valid (same ∙ has) ends empty
    (Uses-then _ _ _ _ _ _ _ _ uses used) consumed reads in
    (all, c.read_piece.new.waiting, came, whole, omega (arith, c.chunks.invariant.1, c.chunks.body.ok.0, ap length same))
