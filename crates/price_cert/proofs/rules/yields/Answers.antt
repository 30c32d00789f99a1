use Rattle.std.proofs.Common.{rules}
use Rattle.price_cert.proofs.rules.yields.Goals as goal

pub returns-else-is_same_kind : goal.returns-else-is_same_kind
returns-else-is_same_kind c = search rules
