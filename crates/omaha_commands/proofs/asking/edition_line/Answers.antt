use Rattle.omaha_commands.proofs.asking.edition_line.Goals as goal

pub returns-in_ok-line_of-in-Ok-clause-ok : goal.returns-in_ok-line_of-in-Ok-clause-ok
returns-in_ok-line_of-in-Ok-clause-ok g c = (c.in-Ok.number, c.in-Ok.ensures.ok, c.in_ok-line_of-in-Ok.ensures)
