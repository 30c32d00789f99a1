use Rattle.std.proofs.lemmas.List.{take_all}
use Rattle.package_files.specs.Looking.{release_sizes}
use Rattle.package_files.proofs.LookLemmas.{LacksFirst-at}
use Rattle.package_files.proofs.looking.look_for_releases.Goals as goal

pub returns-in-Err : goal.returns-in-Err
returns-in-Err g c =
    LacksFirst-at release_sizes (g.P.PackageSizes.sizes c.args.packages.now) c.args.releases.now c.loop-release.release-index c.release-item.result
    c.loop-release-test.true c.release-item.is c.loop-release.invariant c.in-Err.lacking.name.now c.in-Err.lacking.lack (rw c.as_str.ensures at c.in-Err.ensures)

pub returns : goal.returns
returns g c =
    rw (take_all c.loop-release.release-index c.args.releases.now c.loop-release-test.false) at c.loop-release.invariant
