use Rattle.history_rows.proofs.disk.live_in.Goals as goal

pub live_over-requires : goal.live_over-requires
live_over-requires g c = c.in_ok-conn.ensures
