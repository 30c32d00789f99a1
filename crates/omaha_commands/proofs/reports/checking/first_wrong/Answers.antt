use Rattle.std.proofs.Common.{◌≡◌, ◌-◌, length, None}
use Rattle.price_cert.specs.Rules.{broken_at}
use Rattle.omaha_commands.proofs.UnbrokenLemmas.{AreUnbroken-before}
use Rattle.omaha_commands.proofs.reports.checking.first_wrong.Goals as goal

pub loop-from-preserved : goal.loop-from-preserved
loop-from-preserved c =
    let here : broken_at c.args.graph.now c.args.rows.now (c.loop-from.from - 1) ≡ None = cc in
    AreUnbroken-before c.args.graph.now c.args.rows.now c.loop-from.from (length c.args.rows.now) here c.loop-from.invariant
