use Rattle.std.proofs.lemmas.List.{take_all}
use Rattle.package_files.specs.Looking.{diff_sizes}
use Rattle.package_files.proofs.LookLemmas.{LacksFirst-at}
use Rattle.package_files.proofs.looking.look_for_diffs.Goals as goal

pub returns-in-Err : goal.returns-in-Err
returns-in-Err g c =
    LacksFirst-at diff_sizes (g.P.PackageSizes.sizes c.args.packages.now) c.args.diffs.now c.loop-shared.shared-index c.shared-item.result
    c.loop-shared-test.true c.shared-item.is c.loop-shared.invariant c.in-Err.lacking.name.now c.in-Err.lacking.lack (rw c.get-diff.ensures at (rw c.as_str.ensures at c.in-Err.ensures))

pub returns : goal.returns
returns g c =
    rw (take_all c.loop-shared.shared-index c.args.diffs.now c.loop-shared-test.false) at c.loop-shared.invariant
