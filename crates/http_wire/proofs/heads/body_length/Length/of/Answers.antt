use Rattle.std.proofs.Common.{rules}
use Rattle.http_wire.proofs.heads.body_length.Length.of.Goals as goal

pub returns-in-Missing : goal.returns-in-Missing
returns-in-Missing c = search rules
