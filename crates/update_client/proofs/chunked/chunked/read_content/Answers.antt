use Rattle.std.proofs.Common.{◌≤◌, ℕ, List, ◌++◌, length, take, min, ap, ◌∙◌, arith, length-append}
use Rattle.std.proofs.lemmas.List.{length-take-le}
use Rattle.update_client.proofs.ChunkLemmas.{content_grows, content_put}
use Rattle.update_client.proofs.chunked.chunked.read_content.Goals as goal

pub loop-left-preserved : goal.loop-left-preserved
loop-left-preserved g c =
    let (content, uses, long, grown) = c.loop-left.invariant.0 in
    let waiting = c.await_byte.new.waiting in
    let count = c.min-count.result in
    let least = c.min-count.ensures ∙ ap (λ (bytes : List ℕ). min (length bytes) c.loop-left.left) c.bytes.ensures in
    let within : count ≤ length waiting = omega (arith, least) in
    let taken = length-take-le count waiting within in (
      (
        content ++ take count waiting,
        content_grows (g.S.Source.remaining c.args.source.now) (g.S.Source.remaining c.loop-left.source)
            (g.S.Source.remaining c.await_byte.new.source) c.args.waiting.now c.loop-left.waiting waiting
            c.discard.new.self content count uses c.in_ok-await_byte.ensures.read c.discard.ensures,
        omega (arith, long, least, taken, length-append content (take count waiting)),
        content_put c.args.body.now.items c.loop-left.body.items c.extend_from_slice.new.self.items content
            c.bytes-in-loop-left.result.now waiting count c.in_ok-extend_from_slice.ensures.items c.bytes-in-loop-left.ensures grown,
      ),
      omega (arith, c.in_ok-await_byte.ensures.failed, c.loop-left.invariant.1),
      omega (arith, c.in_ok-await_byte.ensures.block, c.loop-left.invariant.2),
      c.in_ok-await_byte.ensures.block ∙ c.loop-left.invariant.3,
    )
