use Rattle.std.proofs.Common.{◌+◌, ◌++◌, drop, sym, ap, ◌∙◌}
use Rattle.certificates.specs.Headings.{headings}
use Rattle.certificates.specs.Strings.{ended, headings_string}
use Rattle.certificates.specs.declared.heading.Heading.TheVariants.{Format}
use Rattle.certificates.proofs.WritingLemmas.{headings_string-end, headings_string-next}
use Rattle.certificates.proofs.writer.push_headings.Goals as goal

pub loop-index-preserved : goal.loop-index-preserved
loop-index-preserved c =
    let before = c.loop-index.text.items in
    let others = headings_string c.args.app.now c.args.cohort.now c.args.key.now c.args.target.now (drop (c.loop-index.index + 1) headings) in
    let line = ap (λ line. before ++ ended line) (c.as_str.ensures ∙ c.in_ok-line.ensures) in
    ap (λ pushed. pushed ++ others) (c.in_ok-push_line.ensures ∙ line)
    ∙ headings_string-next before c.args.app.now c.args.cohort.now c.args.key.now c.args.target.now headings c.loop-index.index Format
    c.loop-index-test.true
    ∙ c.loop-index.invariant

pub returns : goal.returns
returns c =
    sym (headings_string-end c.loop-index.text.items c.args.app.now c.args.cohort.now c.args.key.now c.args.target.now headings
    c.loop-index.index c.loop-index-test.false)
    ∙ c.loop-index.invariant
