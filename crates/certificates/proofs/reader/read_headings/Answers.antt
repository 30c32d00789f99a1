use Rattle.std.proofs.Common.{◌+◌, get_or, Err, sym, ap, ◌∙◌}
use Rattle.certificates.specs.Headings.{headings}
use Rattle.certificates.specs.Reading.{heading_flaw}
use Rattle.certificates.specs.declared.heading.Heading.TheVariants.{Format}
use Rattle.certificates.proofs.ReadingLemmas.{read_headings-end, read_headings-flawed, read_headings-missing, read_headings-next}
use Rattle.certificates.proofs.reader.read_headings.Goals as goal

pub returns-in_default : goal.returns-in_default
returns-in_default c =
    sym c.loop-index.invariant
    ∙ read_headings-missing c.args.app.now c.args.cohort.now c.args.key.now c.args.target.now headings c.loop-index.index Format
    (c.loop-index.index + 1) c.loop-index.rest.now c.loop-index-test.true (sym c.in_default.ensures)

pub returns-in-Some-flaw_of : goal.returns-in-Some-flaw_of
returns-in-Some-flaw_of c =
    let wanted = sym (c.as_str.ensures ∙ c.in_ok-wanted.ensures) in
    let flawed = ap (heading_flaw (get_or headings c.loop-index.index Format) c.in-Some.line.now) wanted ∙ sym c.in-Some-flaw_of.ensures in
    sym c.loop-index.invariant
    ∙ read_headings-flawed c.args.app.now c.args.cohort.now c.args.key.now c.args.target.now headings c.loop-index.index Format
    (c.loop-index.index + 1) c.loop-index.rest.now c.in-Some.line.now c.in-Some.after.now c.in-Some-flaw_of.flaw
    c.loop-index-test.true (sym c.in-Some.ensures) flawed
    ∙ ap Err (sym c.at.ensures)

pub loop-index-preserved : goal.loop-index-preserved
loop-index-preserved c =
    let wanted = sym (c.as_str.ensures ∙ c.in_ok-wanted.ensures) in
    let fits = ap (heading_flaw (get_or headings c.loop-index.index Format) c.in-Some.line.now) wanted ∙ sym c.in_default-flaw_of.ensures in
    sym (read_headings-next c.args.app.now c.args.cohort.now c.args.key.now c.args.target.now headings c.loop-index.index Format
    (c.loop-index.index + 1) c.loop-index.rest.now c.in-Some.line.now c.in-Some.after.now
    c.loop-index-test.true (sym c.in-Some.ensures) fits)
    ∙ c.loop-index.invariant

pub returns : goal.returns
returns c =
    sym c.loop-index.invariant
    ∙ read_headings-end c.args.app.now c.args.cohort.now c.args.key.now c.args.target.now headings c.loop-index.index
    (c.loop-index.index + 1) c.loop-index.rest.now c.loop-index-test.false
