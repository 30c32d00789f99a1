use Rattle.std.proofs.Common.{rules}
use Rattle.http_wire.proofs.body.take_waiting.Goals as goal

pub returns-clause-rest : goal.returns-clause-rest
returns-clause-rest c = search rules
