use Rattle.access_logs.proofs.logged_port.LoggedPortPort.wait.Goals as goal

pub wait-event-requires : goal.wait-event-requires
wait-event-requires g c = rw (← c.self.view_is) at c.requires
