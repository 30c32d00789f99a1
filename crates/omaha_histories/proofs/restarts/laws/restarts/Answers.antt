use Rattle.omaha_histories.proofs.CallLemmas.{restarts_find_what_was_published}
use Rattle.omaha_histories.proofs.restarts.laws.restarts.Goals as goal

pub returns : goal.returns
returns c = restarts_find_what_was_published
