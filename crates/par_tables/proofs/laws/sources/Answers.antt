use Rattle.par_tables.proofs.SourceLemmas.{net_among-source}
use Rattle.par_tables.proofs.laws.sources.Goals as goal

pub returns : goal.returns
returns c = net_among-source
