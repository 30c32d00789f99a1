use Rattle.access_logs.proofs.logged_port.LoggedPort.into_parts.Goals as goal

pub returns-clause-log : goal.returns-clause-log
returns-clause-log g c =
    let tied = c.self.invariant.tied in
    record {
      first = c.self.inside.first.value;
      last = c.self.inside.log.lines;
      logged = tied.logged;
      fresh = c.self.invariant.fresh;
      each = tied.done;
      sends = tied.sends;
      all = c.finish.ensures.sent;
    }
