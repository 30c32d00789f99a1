use Rattle.std.proofs.Common.{rules}
use Rattle.price_cert.proofs.rules.broken_at.Goals as goal

pub returns : goal.returns
returns c = search rules
