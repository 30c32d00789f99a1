use Rattle.std.proofs.Common.{sym, arith}
use Rattle.http_wire.proofs.TargetLemmas.{before-mark, before-whole}
use Rattle.http_wire.proofs.heads.target.before.Goals as goal

pub returns-then-bytes-end : goal.returns-then-bytes-end
returns-then-bytes-end c =
    sym (before-mark c.args.mark c.args.bytes.now c.loop-end.end c.loop-end-test.true c.if-bytes-end.true c.loop-end.invariant)

pub returns : goal.returns
returns c = sym (before-whole c.args.mark c.args.bytes.now (λ k below. c.loop-end.invariant k (omega arith)))
