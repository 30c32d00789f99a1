use Rattle.omaha_arguments.proofs.serve_arguments.serve_command.Goals as goal

pub returns : goal.returns
returns c = c.with_limits.ensures _ (c.with_places-command.ensures _ c.titled-command.ensures)
