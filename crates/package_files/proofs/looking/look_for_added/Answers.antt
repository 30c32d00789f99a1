use Rattle.std.proofs.Common.{List, subst}
use Rattle.std.proofs.lemmas.List.{take_all}
use Rattle.package_files.specs.Lacking.{AreThere, LacksFirst, Sized}
use Rattle.package_files.specs.Looking.{edit_sizes}
use Rattle.package_files.proofs.LookLemmas.{LacksFirst-at, sizes_in-is}
use Rattle.package_files.proofs.looking.look_for_added.Goals as goal

pub returns-in-Err : goal.returns-in-Err
returns-in-Err g c =
    subst (λ (list : List Sized). LacksFirst (g.P.PackageSizes.sizes c.args.packages.now) list c.in-Err.lacking.name.now c.in-Err.lacking.lack) (sizes_in-is c.args.batch.now)
    (LacksFirst-at edit_sizes (g.P.PackageSizes.sizes c.args.packages.now) c.args.batch.now c.loop-edit.edit-index c.edit-item.result
    c.loop-edit-test.true c.edit-item.is c.loop-edit.invariant c.in-Err.lacking.name.now c.in-Err.lacking.lack c.in-Err.ensures)

pub returns : goal.returns
returns g c =
    subst (AreThere (g.P.PackageSizes.sizes c.args.packages.now)) (sizes_in-is c.args.batch.now)
    (rw (take_all c.loop-edit.edit-index c.args.batch.now c.loop-edit-test.false) at c.loop-edit.invariant)
