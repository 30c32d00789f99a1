use Rattle.std.proofs.Common.{inr}
use Rattle.omaha_commands.proofs.fetching.review_said.Goals as goal

pub returns-in-Ok : goal.returns-in-Ok
returns-in-Ok g c = inr (rw c.in-Ok.ensures at c.review_if.ensures)
