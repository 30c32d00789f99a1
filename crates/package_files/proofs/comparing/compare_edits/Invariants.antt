use Rattle.std.proofs.Common.{take}
use Rattle.package_files.specs.Added.{added_in}
use Rattle.package_files.specs.Findings.{Adds}
use Rattle.package_files.proofs.comparing.compare_edits.Given as goal

abbrev pub invariant-loop-edit : goal.invariant-loop-edit
invariant-loop-edit g l =
    Adds (g.P.OpenPackages.opens l.packages) (g.P.Packages.reads l.packages)
    (added_in (take l.edit-index l.edits)) l.fn.findings l.findings
