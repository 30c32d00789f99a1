use Rattle.std.proofs.Common.{inl}
use Rattle.omaha_commands.proofs.operating.call.Goals as goal

pub returns-in-Ok : goal.returns-in-Ok
returns-in-Ok g c = inl (c.in-Ok.reply, c.in-Ok.ensures.ok, c.in-Ok.ensures.within, c.print_reply.ensures)
