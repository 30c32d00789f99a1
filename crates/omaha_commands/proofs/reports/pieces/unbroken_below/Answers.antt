use Rattle.std.proofs.Common.{◌≡◌, ◌-◌, rules, refl, sym, ap, ◌∙◌, arith, ℕ}
use Rattle.price_cert.specs.Rows.{row_at}
use Rattle.omaha_commands.proofs.UnbrokenLemmas.{AreUnbroken-before, broken_at-best}
use Rattle.omaha_commands.proofs.reports.pieces.unbroken_below.Goals as goal

pub loop-from-preserved : goal.loop-from-preserved
loop-from-preserved c =
    let net = c.args.graph.now in
    let rows = c.args.rows.now in
    let from = c.loop-from.from in
    let apart : from - 1 ≡ net.target → ⊥ = λ same. absurd (omega arith) in
    let is : row_at rows (from - 1) ≡ c.best_row.result = search rules in
    record {
      unbroken = AreUnbroken-before net rows from c.args.high (broken_at-best net rows (from - 1) c.best_row.result apart is c.best_row.ensures) c.loop-from.invariant.unbroken;
      best = c.best_below-best.ensures;
    }
