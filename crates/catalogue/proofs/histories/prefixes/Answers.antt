use Rattle.std.proofs.Common.{[]}
use Rattle.catalogue.proofs.HistoryLemmas.{run-prefix}
use Rattle.catalogue.proofs.histories.prefixes.Goals as goal

pub returns : goal.returns
returns c = λ history more apps led. run-prefix history more [] apps led
