use Rattle.history_rows.proofs.disk.connect.Goals as goal

pub returns-in-Ok : goal.returns-in-Ok
returns-in-Ok g c early = (c.in-Ok.ensures.opened early).0
