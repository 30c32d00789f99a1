use Rattle.std.proofs.Common.{arith}
use Rattle.std.proofs.lemmas.Grind.{common_steps}
use Rattle.mirror_ledger.proofs.closing.close_parts.Goals as goal

pub returns-clause-within : goal.returns-clause-within
returns-clause-within g c = grind (arith, common_steps)
