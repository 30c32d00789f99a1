use Rattle.theorems.proofs.RaiseLemmas.{operators_only_raise}
use Rattle.theorems.proofs.RestartLemmas.{dumps_are_profiles, restarts_keep_replies, services_open_again}
use Rattle.theorems.proofs.interleavings.laws.restart.Goals as goal

pub returns : goal.returns
returns c =
    record {
      raises = operators_only_raise;
      dumps = dumps_are_profiles;
      replies = restarts_keep_replies c.plans.ensures;
      opens = services_open_again;
    }
