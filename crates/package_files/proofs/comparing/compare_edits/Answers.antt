use Rattle.package_files.specs.Added.{added_by}
use Rattle.package_files.proofs.FindingLemmas.{Adds-part}
use Rattle.package_files.proofs.comparing.compare_edits.Goals as goal

pub loop-edit-preserved : goal.loop-edit-preserved
loop-edit-preserved g c =
    Adds-part added_by (g.P.OpenPackages.opens c.args.packages.now) (g.P.Packages.reads c.args.packages.now)
    c.args.edits.now c.loop-edit.edit-index c.edit-item.result c.args.findings.now c.loop-edit.findings c.compare_edit.new.findings
    c.loop-edit-test.true c.edit-item.is c.loop-edit.invariant c.in_ok-compare_edit.ensures
