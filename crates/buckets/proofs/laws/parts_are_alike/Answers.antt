use Rattle.buckets.proofs.CountLemmas.{cut_off-counted}
use Rattle.buckets.proofs.PartLemmas.{moves-exact}
use Rattle.buckets.proofs.laws.parts_are_alike.Goals as goal

pub returns-clause-counted : goal.returns-clause-counted
returns-clause-counted c = cut_off-counted

pub returns-clause-moves : goal.returns-clause-moves
returns-clause-moves c = moves-exact
