use Rattle.std.proofs.Common.{◌∙◌, sym, arith}
use Rattle.access_logs.proofs.LineLemmas.{up_to_end-all, up_to_end-found}
use Rattle.access_logs.proofs.message.up_to_end.Goals as goal

pub returns-then-ends_line : goal.returns-then-ends_line
returns-then-ends_line c =
    sym (up_to_end-found c.args.bytes.now c.loop-index.index (omega (arith, c.loop-index-test.true))
    c.loop-index.invariant
    (sym c.ends_line.ensures ∙ c.if-ends_line.true))

pub returns : goal.returns
returns c =
    sym (up_to_end-all c.args.bytes.now
    (λ k less. c.loop-index.invariant k (omega (arith, less, c.loop-index-test.false))))
