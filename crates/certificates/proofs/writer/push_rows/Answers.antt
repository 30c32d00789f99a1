use Rattle.std.proofs.Common.{◌+◌, ◌++◌, drop, sym, ap, ◌∙◌}
use Rattle.price_cert.specs.declared.row.Row.TheVariants.{Nothing}
use Rattle.certificates.specs.Strings.{ended, rows_from}
use Rattle.certificates.proofs.WritingLemmas.{rows_from-end, rows_from-next}
use Rattle.certificates.proofs.writer.push_rows.Goals as goal

pub loop-index-preserved : goal.loop-index-preserved
loop-index-preserved c =
    let before = c.loop-index.text.items in
    let index = c.loop-index.index in
    let others = rows_from c.args.releases.now (index + 1) (drop (index + 1) c.args.rows.now) in
    let line = ap (λ line. before ++ ended line) (c.as_str.ensures ∙ c.in_ok-line.ensures) in
    ap (λ pushed. pushed ++ others) (c.in_ok-push_line.ensures ∙ line)
    ∙ rows_from-next before c.args.releases.now c.args.rows.now index Nothing c.loop-index-test.true
    ∙ c.loop-index.invariant

pub returns : goal.returns
returns c =
    sym (rows_from-end c.loop-index.text.items c.args.releases.now c.args.rows.now c.loop-index.index c.loop-index-test.false)
    ∙ c.loop-index.invariant
