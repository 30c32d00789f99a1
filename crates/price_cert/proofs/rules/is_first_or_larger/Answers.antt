use Rattle.std.proofs.Common.{rules}
use Rattle.price_cert.proofs.rules.is_first_or_larger.Goals as goal

pub returns-else-not-costs : goal.returns-else-not-costs
returns-else-not-costs c = search rules
