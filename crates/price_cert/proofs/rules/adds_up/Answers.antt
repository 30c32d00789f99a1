use Rattle.std.proofs.Common.{rules}
use Rattle.price_cert.proofs.rules.adds_up.Goals as goal

pub returns-then-bytes-price : goal.returns-then-bytes-price
returns-then-bytes-price c = search rules
