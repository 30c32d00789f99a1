use Rattle.std.proofs.Common.{ap, ◌∙◌}
use Rattle.catalogue.specs.Lookups.{diff_package}
use Rattle.catalogue.specs.declared.content.Diff.{Diff}
use Rattle.package_files.proofs.FindingLemmas.{Adds-item}
use Rattle.package_files.proofs.comparing.compare_diffs.Goals as goal

pub loop-shared-preserved : goal.loop-shared-preserved
loop-shared-preserved g c =
    let name = c.as_str.ensures ∙ ap (λ (diff : Diff). diff.name) c.get-diff.ensures in
    let size = ap (λ (diff : Diff). diff.size) c.get-diff.ensures in
    let hash = ap (λ (diff : Diff). diff.hash) c.get-diff.ensures in
    Adds-item diff_package (g.P.OpenPackages.opens c.args.packages.now) (g.P.Packages.reads c.args.packages.now)
    c.args.diffs.now c.loop-shared.shared-index c.shared-item.result c.as_str.result.now c.args.findings.now c.loop-shared.findings c.compare_package.new.findings
    c.loop-shared-test.true c.shared-item.is name c.loop-shared.invariant
    (rw size at (rw hash at c.in_ok-compare_package.ensures))
