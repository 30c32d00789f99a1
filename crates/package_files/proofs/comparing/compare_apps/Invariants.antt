use Rattle.std.proofs.Common.{take}
use Rattle.catalogue.specs.Lookups.{packages_of}
use Rattle.package_files.specs.Findings.{Adds}
use Rattle.package_files.proofs.comparing.compare_apps.Given as goal

abbrev pub invariant-loop-app : goal.invariant-loop-app
invariant-loop-app g l =
    Adds (g.P.OpenPackages.opens l.packages) (g.P.Packages.reads l.packages)
    (packages_of (take l.app-index l.apps)) l.fn.findings l.findings
