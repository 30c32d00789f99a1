use Rattle.std.proofs.Common.{◌≡◌, ◌+◌, rules, refl, sym, ap, ◌∙◌, arith, ℕ}
use Rattle.price_cert.specs.Rows.{row_at}
use Rattle.omaha_commands.specs.Pieces.{AreUnbroken}
use Rattle.omaha_commands.proofs.UnbrokenLemmas.{AreUnbroken-after, broken_at-best}
use Rattle.omaha_commands.proofs.reports.pieces.unbroken_above.Goals.{then-ne, else-ne}
use Rattle.omaha_commands.proofs.reports.pieces.unbroken_above.Goals as goal

pub loop-from-preserved : goal.loop-from-preserved
loop-from-preserved c =
    let net = c.args.graph.now in
    let rows = c.args.rows.now in
    let from = c.loop-from.from in
    let apart : from ≡ net.target → ⊥ = λ same. absurd (omega arith) in
    record {
      within = elim c.if-ne.branch [
        | then-ne w ↦ (let start = w.start-is in omega arith)
        | else-ne w ↦ (let start = w.start-is in omega arith)
      ];
      unbroken = elim c.if-ne.branch [
        | then-ne w ↦ λ index after before. absurd (let start = w.start-is in omega arith)
        | else-ne w ↦
            let is : row_at rows from ≡ c.best_row.result = search rules in
            rw w.start-is (AreUnbroken-after net rows c.loop-from.start from (broken_at-best net rows from c.best_row.result apart is c.best_row.ensures) c.loop-from.invariant.unbroken)
      ];
      best = c.best_above-best.ensures;
    }
