use Rattle.std.proofs.Common.{arith}
use Rattle.std.proofs.lemmas.Grind.{common_steps}
use Rattle.update_client.proofs.chunked.reading.read_more.Goals as goal

pub returns-clause-given : goal.returns-clause-given
returns-clause-given g c = grind (arith, common_steps)
