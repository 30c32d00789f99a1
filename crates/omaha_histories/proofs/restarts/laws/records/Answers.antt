use Rattle.omaha_histories.proofs.OneLemmas.{records_lead_to_one}
use Rattle.omaha_histories.proofs.restarts.laws.records.Goals as goal

pub returns : goal.returns
returns c = records_lead_to_one
