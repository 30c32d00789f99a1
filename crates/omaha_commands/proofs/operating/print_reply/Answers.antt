use Rattle.std.proofs.Common.{inl}
use Rattle.omaha_commands.proofs.operating.print_reply.Goals as goal

pub returns-in-Ok : goal.returns-in-Ok
returns-in-Ok g c = inl (rw c.in-Ok.ensures at c.print_by.ensures)
