use Rattle.std.proofs.Common.{arith}
use Rattle.streams.proofs.ReadingLemmas.{IfSome-take}
use Rattle.streams.proofs.reading.read_bounded.Goals as goal

pub returns-clause-ok : goal.returns-clause-ok
returns-clause-ok g c =
    let limited = c.take-limited in (
      rw limited.ensures.inner at
          (IfSome-take (g.R.Read.remaining limited.result.inner.now) limited.result.limit c.new-bytes.result.items c.read_to_end.new.buf.items
          c.new-bytes.ensures.items c.in-Ok-2.ensures.bytes
          (omega (arith, limited.ensures.limit))),
      omega arith,
    )
