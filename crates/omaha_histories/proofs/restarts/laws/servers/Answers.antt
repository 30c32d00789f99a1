use Rattle.omaha_histories.proofs.ServerLemmas.{servers_agree}
use Rattle.omaha_histories.proofs.restarts.laws.servers.Goals as goal

pub returns : goal.returns
returns c = servers_agree
