use Rattle.std.proofs.Common.{rules}
use Rattle.price_cert.proofs.rules.is_named.Goals as goal

pub returns-then-edge-to : goal.returns-then-edge-to
returns-then-edge-to c = search rules
