use Rattle.std.proofs.Common.{rules}
use Rattle.mirror_ledger.proofs.parts.Parts.add_to.Goals as goal

pub returns-clause-second : goal.returns-clause-second
returns-clause-second g c = search rules
