use Rattle.std.proofs.Common.{rules}
use Rattle.price_cert.proofs.rules.is_at_most.Goals as goal

pub returns-else-price-bytes : goal.returns-else-price-bytes
returns-else-price-bytes c = search rules
