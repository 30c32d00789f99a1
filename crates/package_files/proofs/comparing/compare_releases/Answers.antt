use Rattle.catalogue.specs.Lookups.{full_package}
use Rattle.package_files.proofs.FindingLemmas.{Adds-item}
use Rattle.package_files.proofs.comparing.compare_releases.Goals as goal

pub loop-release-preserved : goal.loop-release-preserved
loop-release-preserved g c =
    Adds-item full_package (g.P.OpenPackages.opens c.args.packages.now) (g.P.Packages.reads c.args.packages.now)
    c.args.releases.now c.loop-release.release-index c.release-item.result c.as_str.result.now c.args.findings.now c.loop-release.findings c.compare_package.new.findings
    c.loop-release-test.true c.release-item.is c.as_str.ensures c.loop-release.invariant c.in_ok-compare_package.ensures
