use Rattle.std.proofs.Common.{rules}
use Rattle.service_desks.proofs.services.builtin.builtin_mirror.Goals as goal

pub returns : goal.returns
returns c = search rules
