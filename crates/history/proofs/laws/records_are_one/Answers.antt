use Rattle.history.proofs.LawLemmas.{same_records}
use Rattle.history.proofs.laws.records_are_one.Goals as goal

pub returns : goal.returns
returns c = same_records
