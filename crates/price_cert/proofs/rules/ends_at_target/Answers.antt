use Rattle.std.proofs.Common.{rules}
use Rattle.price_cert.proofs.rules.ends_at_target.Goals as goal

pub returns-in-End : goal.returns-in-End
returns-in-End c = search rules
