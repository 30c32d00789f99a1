use Rattle.std.proofs.Common.{◌≡◌, arith}
use Rattle.omaha_commands.proofs.reports.pieces.best_of_window.Goals as goal

pub returns : goal.returns
returns c =
    let ended : c.loop-index.index ≡ c.args.from = omega arith in
    rw ended at c.loop-index.invariant.best
