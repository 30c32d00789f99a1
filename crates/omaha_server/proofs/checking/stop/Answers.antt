use Rattle.omaha_server.proofs.CheckLemmas.{StopsFor-looked}
use Rattle.omaha_server.proofs.checking.stop.Goals as goal

pub returns-in-Ok : goal.returns-in-Ok
returns-in-Ok g c =
    StopsFor-looked (g.F.PackageSizes.sizes c.args.folder.now) c.args.body.now c.in-Ok.script.0 c.in-Ok.script.1
    c.look_for_added.result c.stop_for.result c.in-Ok.ensures (rw c.edits.ensures at c.look_for_added.ensures) c.stop_for.ensures
