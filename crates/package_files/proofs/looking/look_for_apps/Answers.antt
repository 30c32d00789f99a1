use Rattle.std.proofs.Common.{List, subst}
use Rattle.std.proofs.lemmas.List.{take_all}
use Rattle.package_files.specs.Lacking.{AreThere, LacksFirst, Sized}
use Rattle.package_files.specs.Looking.{app_sizes}
use Rattle.package_files.proofs.LookLemmas.{LacksFirst-at, sizes_of-is}
use Rattle.package_files.proofs.looking.look_for_apps.Goals as goal

pub returns-in-Err : goal.returns-in-Err
returns-in-Err g c =
    subst (λ (list : List Sized). LacksFirst (g.P.PackageSizes.sizes c.args.packages.now) list c.in-Err.lacking.name.now c.in-Err.lacking.lack) (sizes_of-is c.args.apps.now)
    (LacksFirst-at app_sizes (g.P.PackageSizes.sizes c.args.packages.now) c.args.apps.now c.loop-app.app-index c.app-item.result
    c.loop-app-test.true c.app-item.is c.loop-app.invariant c.in-Err.lacking.name.now c.in-Err.lacking.lack c.in-Err.ensures)

pub returns : goal.returns
returns g c =
    subst (AreThere (g.P.PackageSizes.sizes c.args.packages.now)) (sizes_of-is c.args.apps.now)
    (rw (take_all c.loop-app.app-index c.args.apps.now c.loop-app-test.false) at c.loop-app.invariant)
