use Rattle.std.proofs.Common.{◌≡◌, ◌+◌, ◌<◌, drop, length, Err, Ok, sym, ap, ◌∙◌, append-nil, arith}
use Rattle.std.proofs.lemmas.Bool.Decides.{nat_tests}
use Rattle.certificates.specs.Reading.{read_row, read_rows, with_rows}
use Rattle.certificates.specs.declared.fault.Fault.TheVariants.{BadLine}
use Rattle.certificates.proofs.ReadingLemmas.{read_rows-end, read_rows-flawed, read_rows-left, read_rows-missing, read_rows-next, with_rows-push}
use Rattle.certificates.proofs.reader.read_rows.Goals as goal

pub returns-in_default : goal.returns-in_default
returns-in_default c =
    let releases = c.args.releases.now in
    sym c.loop-index.invariant
    ∙ ap (with_rows c.loop-index.rows)
    (read_rows-missing releases releases c.loop-index.index (c.loop-index.index + 8) c.loop-index.rest.now c.loop-index-test.true
    (sym c.in_default.ensures))

pub returns-in-Err : goal.returns-in-Err
returns-in-Err c =
    let releases = c.args.releases.now in
    let flawed = ap (λ spelled. read_row releases spelled c.in-Some.line.now) (sym c.as_str.ensures) ∙ sym c.in-Err.ensures in
    sym c.loop-index.invariant
    ∙ ap (with_rows c.loop-index.rows)
    (read_rows-flawed releases releases c.loop-index.index c.index-releases-index.result (c.loop-index.index + 8) c.loop-index.rest.now
    c.in-Some.line.now c.in-Some.after.now c.in-Err.flaw c.loop-index-test.true (sym c.in-Some.ensures) flawed)
    ∙ ap Err (sym c.at.ensures)

pub loop-index-preserved : goal.loop-index-preserved
loop-index-preserved c =
    let releases = c.args.releases.now in
    let index = c.loop-index.index in
    let rows = c.loop-index.rows in
    let others = read_rows releases (drop (index + 1) releases) (index + 1 + 8) c.in-Some.after.now in
    let read = ap (λ spelled. read_row releases spelled c.in-Some.line.now) (sym c.as_str.ensures) ∙ sym c.in-Ok.ensures in
    ap (λ pushed. with_rows pushed others) c.in_ok-push-in-Ok.ensures.ok
    ∙ with_rows-push (index + 8) rows c.in-Ok.row others
    ∙ sym (ap (with_rows rows)
    (read_rows-next releases releases index c.index-releases-index.result (index + 8) (index + 1 + 8) c.loop-index.rest.now
    c.in-Some.line.now c.in-Some.after.now c.in-Ok.row c.loop-index-test.true (omega arith) (sym c.in-Some.ensures) read))
    ∙ c.loop-index.invariant

pub returns-then-not-is_empty : goal.returns-then-not-is_empty
returns-then-not-is_empty c =
    let releases = c.args.releases.now in
    let index = c.loop-index.index in
    let some : 0 < length c.loop-index.rest.now = grind (arith, nat_tests, c.is_empty.ensures, c.if-not-is_empty.true) in
    let same : index ≡ length releases = omega (arith, c.loop-index-test.false, c.loop-index.auto.index-end) in
    sym c.loop-index.invariant
    ∙ ap (with_rows c.loop-index.rows) (read_rows-left releases releases index (index + 8) c.loop-index.rest.now c.loop-index-test.false some)
    ∙ ap (λ last. Err (BadLine (last + 8))) same

pub returns : goal.returns
returns c =
    let releases = c.args.releases.now in
    let index = c.loop-index.index in
    let none : length c.loop-index.rest.now ≡ 0 = grind (arith, nat_tests, c.is_empty.ensures, c.if-not-is_empty.false) in
    sym c.loop-index.invariant
    ∙ ap (with_rows c.loop-index.rows) (read_rows-end releases releases index (index + 8) c.loop-index.rest.now c.loop-index-test.false none)
    ∙ ap Ok (append-nil c.loop-index.rows)
