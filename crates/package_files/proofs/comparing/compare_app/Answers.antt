use Rattle.std.proofs.Common.{List, ◌++◌, map, sym, ap₂}
use Rattle.catalogue.specs.Lookups.{diff_package, full_package, packages_in}
use Rattle.catalogue.specs.declared.content.Diff.{Diff}
use Rattle.catalogue.specs.declared.content.Release.{Release}
use Rattle.package_files.proofs.FindingLemmas.{Adds-next}
use Rattle.package_files.proofs.comparing.compare_app.Goals as goal

pub returns : goal.returns
returns g c =
    Adds-next (g.P.OpenPackages.opens c.args.packages.now) (g.P.Packages.reads c.args.packages.now)
    (map full_package c.as_slice.result.now) (map diff_package c.as_slice-2.result.now) (packages_in c.args.app.now) _ _ _
    (ap₂ (λ (releases : List Release) (diffs : List Diff). map full_package releases ++ map diff_package diffs)
    (sym c.as_slice.ensures) (sym c.as_slice-2.ensures))
    c.in_ok-compare_releases.ensures c.in_ok-compare_diffs.ensures
