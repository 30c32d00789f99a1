use Rattle.std.proofs.Common.{rules}
use Rattle.price_cert.proofs.rules.is_bounded.Goals as goal

pub returns : goal.returns
returns c = search rules
