use Rattle.std.proofs.Common.{rules}
use Rattle.par_tables.proofs.making.resolved_for.Goals as goal

pub returns-then-known-app-clause-app : goal.returns-then-known-app-clause-app
returns-then-known-app-clause-app c = search rules
