use Rattle.std.proofs.Common.{◌≡◌, ◌+◌, rules, length, arith}
use Rattle.price_cert.specs.Rows.{row_at}
use Rattle.price_cert.specs.declared.row.Row.TheVariants.{End}
use Rattle.omaha_commands.specs.Pieces.{AreUnbroken}
use Rattle.omaha_commands.proofs.UnbrokenLemmas.{AreUnbroken-around}
use Rattle.omaha_commands.proofs.reports.checking.unbroken_from.Goals as goal

pub returns-clause-unbroken : goal.returns-clause-unbroken
returns-clause-unbroken c =
    let net = c.args.graph.now in
    let rows = c.args.rows.now in
    let is : row_at rows net.target ≡ End = search rules in
    let below : AreUnbroken net rows c.unbroken_below.result net.target = rw c.target-target.ensures.target at c.unbroken_below.ensures.unbroken in
    AreUnbroken-around net rows c.unbroken_below.result (length rows) is below
    (λ index after before. c.unbroken_above-above.ensures.unbroken index (omega arith) before)
