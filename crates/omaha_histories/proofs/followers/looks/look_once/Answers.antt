use Rattle.omaha_histories.proofs.LookLemmas.{IsLook-replied}
use Rattle.omaha_histories.proofs.followers.looks.look_once.Goals as goal

pub returns-in-Ok : goal.returns-in-Ok
returns-in-Ok g c =
    IsLook-replied (g.R.Connector.operated c.args.rt.now c.args.address.now) c.in-Ok.reply c.found_of.result c.in-Ok.ensures.ok c.found_of.ensures
