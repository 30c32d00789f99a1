use Rattle.std.proofs.Common.{arith}
use Rattle.http_sessions.proofs.PartLemmas.{kept_at-push}
use Rattle.http_sessions.proofs.talks.connections.free_places.Goals as goal

pub loop-preserved : goal.loop-preserved
loop-preserved g c =
    let (many, none) = c.loop.invariant in
    (omega (arith, many, c.in_ok-push.ensures.len), rw c.in_ok-push.ensures.items (kept_at-push c.loop.conns.items none))
