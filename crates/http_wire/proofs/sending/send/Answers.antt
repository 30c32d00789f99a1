use Rattle.std.proofs.Common.{◌+◌, ◌≤◌, ℕ, arith, length, length-drop, length-take}
use Rattle.http_wire.proofs.KnownLemmas.{Appends-next}
use Rattle.http_wire.proofs.sending.send.Goals as goal

pub loop-sent-preserved : goal.loop-sent-preserved
loop-sent-preserved g c =
    let fits : c.loop-sent.sent + c.in-Ok.count ≤ length c.args.bytes.now =
    omega (arith, c.in-Ok.ensures.bound, length-take {A = ℕ}, length-drop {A = ℕ}) in (
      fits,
      Appends-next _ _ _ c.loop-sent.sent c.in-Ok.count c.args.bytes.now fits c.loop-sent.invariant.1 c.in-Ok.ensures.bytes,
      omega (arith, c.in-Ok.ensures.failed, c.loop-sent.invariant.2),
    )
