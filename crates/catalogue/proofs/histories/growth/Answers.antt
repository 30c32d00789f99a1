-- A batch that is accepted after a history is the last of a longer one.
use Rattle.std.proofs.Common.{[]}
use Rattle.catalogue.proofs.HistoryLemmas.{run-append}
use Rattle.catalogue.proofs.histories.growth.Goals as goal

pub returns : goal.returns
returns c = λ history batch apps more led accepted. run-append history batch [] apps more led accepted
