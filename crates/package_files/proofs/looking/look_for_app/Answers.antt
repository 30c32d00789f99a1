use Rattle.package_files.proofs.LookLemmas.{IsLooked-app, LacksFirst-app}
use Rattle.package_files.proofs.looking.look_for_app.Goals as goal

pub returns-in-Ok : goal.returns-in-Ok
returns-in-Ok g c =
    IsLooked-app (g.P.PackageSizes.sizes c.args.packages.now) c.args.app.now c.as_slice.result.now c.as_slice-in-Ok.result.now
    c.look_for_diffs.result c.as_slice.ensures c.as_slice-in-Ok.ensures c.in-Ok.ensures c.look_for_diffs.ensures

pub returns-in-Err : goal.returns-in-Err
returns-in-Err g c =
    LacksFirst-app (g.P.PackageSizes.sizes c.args.packages.now) c.args.app.now c.as_slice.result.now c.in-Err.lacking.name.now
    c.in-Err.lacking.lack c.as_slice.ensures c.in-Err.ensures
