use Rattle.std.proofs.Common.{rules}
use Rattle.quotes.proofs.quote.find_payload.Goals as goal

pub returns-in-Full : goal.returns-in-Full
returns-in-Full c = search rules
