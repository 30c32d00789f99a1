use Rattle.std.proofs.Common.{inl, inr, refl}
use Rattle.omaha_commands.proofs.judging.judge.Goals as goal

pub returns-in-Ok : goal.returns-in-Ok
returns-in-Ok g c = inr (c.in-Ok.number, c.in-Ok.ensures.ok, c.judge_for.ensures)

pub returns-in-Err : goal.returns-in-Err
returns-in-Err g c = inl (c.in-Err.failure, c.in-Err.ensures.err, refl)
