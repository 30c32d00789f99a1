use Rattle.std.proofs.Common.{arith}
use Rattle.http_ports.proofs.PlaceLemmas.{kept_at-push}
use Rattle.http_ports.proofs.books.book.empty_places.Goals as goal

pub loop-preserved : goal.loop-preserved
loop-preserved g c =
    let (many, none) = c.loop.invariant in
    (omega (arith, many, c.in-Ok.ensures.len), rw c.in-Ok.ensures.items (kept_at-push c.loop.places.items none))
