use Rattle.std.proofs.Common.{rules}
use Rattle.price_cert.proofs.rules.broken_rule.Goals as goal

pub returns-then-not-meets_bounds : goal.returns-then-not-meets_bounds
returns-then-not-meets_bounds c = search rules
