use Rattle.omaha_commands.proofs.fetching.ask.Goals as goal

pub returns-in-Ok-clause-ok : goal.returns-in-Ok-clause-ok
returns-in-Ok-clause-ok g c = rw c.as_str.ensures at c.in-Ok.ensures.ok
