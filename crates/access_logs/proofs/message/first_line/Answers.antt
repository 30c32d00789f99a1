use Rattle.std.proofs.Common.{◌∙◌, sym, ap, arith}
use Rattle.std.proofs.lemmas.List.{take_rest}
use Rattle.access_logs.specs.Entries.{up_to_end}
use Rattle.access_logs.proofs.LineLemmas.{first_line-found, first_line-none}
use Rattle.access_logs.proofs.message.first_line.Goals as goal

pub returns-then-not-ends_line : goal.returns-then-not-ends_line
returns-then-not-ends_line c =
    c.up_to_end.ensures ∙ ap up_to_end (take_rest c.args.bytes.now c.loop-index.index)
    ∙ sym (first_line-found c.args.bytes.now c.loop-index.index (omega (arith, c.loop-index-test.true))
    c.loop-index.invariant
    (sym c.ends_line.ensures ∙ c.if-not-ends_line.true))

pub returns : goal.returns
returns c =
    sym (first_line-none c.args.bytes.now
    (λ k less. c.loop-index.invariant k (omega (arith, less, c.loop-index-test.false))))
