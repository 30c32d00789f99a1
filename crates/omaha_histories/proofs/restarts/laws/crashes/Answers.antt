use Rattle.omaha_histories.proofs.CrashLemmas.{crashes_lose_nothing}
use Rattle.omaha_histories.proofs.restarts.laws.crashes.Goals as goal

pub returns : goal.returns
returns c = crashes_lose_nothing
