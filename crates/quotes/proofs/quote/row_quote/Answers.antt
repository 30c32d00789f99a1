use Rattle.std.proofs.Common.{rules}
use Rattle.quotes.proofs.quote.row_quote.Goals as goal

pub returns-in-Some : goal.returns-in-Some
returns-in-Some c = search rules

pub returns-in-Nothing : goal.returns-in-Nothing
returns-in-Nothing c = search rules

pub returns-in-End : goal.returns-in-End
returns-in-End c = search rules
