use Rattle.std.proofs.Common.{map, take}
use Rattle.catalogue.specs.Lookups.{diff_package}
use Rattle.package_files.specs.Findings.{Adds}
use Rattle.package_files.proofs.comparing.compare_diffs.Given as goal

abbrev pub invariant-loop-shared : goal.invariant-loop-shared
invariant-loop-shared g l =
    Adds (g.P.OpenPackages.opens l.packages) (g.P.Packages.reads l.packages)
    (map diff_package (take l.shared-index l.diffs)) l.fn.findings l.findings
