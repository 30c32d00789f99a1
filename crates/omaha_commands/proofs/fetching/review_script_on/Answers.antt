use Rattle.std.proofs.Common.{inl, inr}
use Rattle.omaha_commands.proofs.fetching.review_script_on.Goals as goal

pub returns-in-Ok : goal.returns-in-Ok
returns-in-Ok g c = inr (c.in-Ok.reply, c.in-Ok.ensures.ok, c.review_said.ensures)

pub returns-in-Err : goal.returns-in-Err
returns-in-Err g c = inl c.in-Err.ensures.err
