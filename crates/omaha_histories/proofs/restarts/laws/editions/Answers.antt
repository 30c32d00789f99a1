use Rattle.omaha_histories.proofs.CrashLemmas.{published_editions_stay}
use Rattle.omaha_histories.proofs.restarts.laws.editions.Goals as goal

pub returns : goal.returns
returns c = published_editions_stay
