use Rattle.service_desks.proofs.RaiseLemmas.{Spells-parse}
use Rattle.service_desks.proofs.raises.value_of.Goals as goal

pub returns-clause-same : goal.returns-clause-same
returns-clause-same c = (Spells-parse c.args.digits.now c.parse.result c.unwrap_or.result c.parse.ensures.value.0 c.requires c.unwrap_or.ensures).same

pub returns-clause-high : goal.returns-clause-high
returns-clause-high c = (Spells-parse c.args.digits.now c.parse.result c.unwrap_or.result c.parse.ensures.value.0 c.requires c.unwrap_or.ensures).high
