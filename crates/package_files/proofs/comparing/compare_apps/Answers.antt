use Rattle.catalogue.specs.Lookups.{packages_in}
use Rattle.package_files.proofs.FindingLemmas.{Adds-part}
use Rattle.package_files.proofs.comparing.compare_apps.Goals as goal

pub loop-app-preserved : goal.loop-app-preserved
loop-app-preserved g c =
    Adds-part packages_in (g.P.OpenPackages.opens c.args.packages.now) (g.P.Packages.reads c.args.packages.now)
    c.args.apps.now c.loop-app.app-index c.app-item.result c.args.findings.now c.loop-app.findings c.compare_app.new.findings
    c.loop-app-test.true c.app-item.is c.loop-app.invariant c.in_ok-compare_app.ensures
