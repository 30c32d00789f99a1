use Rattle.std.proofs.Common.{map, take}
use Rattle.catalogue.specs.Lookups.{full_package}
use Rattle.package_files.specs.Findings.{Adds}
use Rattle.package_files.proofs.comparing.compare_releases.Given as goal

abbrev pub invariant-loop-release : goal.invariant-loop-release
invariant-loop-release g l =
    Adds (g.P.OpenPackages.opens l.packages) (g.P.Packages.reads l.packages)
    (map full_package (take l.release-index l.releases)) l.fn.findings l.findings
