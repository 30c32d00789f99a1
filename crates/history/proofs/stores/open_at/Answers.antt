use Rattle.history.proofs.stores.open_at.Goals as goal

pub take_opened-requires : goal.take_opened-requires
take_opened-requires g c clean = (c.in_ok-conn.ensures.opened clean).0

pub returns-clause-opened : goal.returns-clause-opened
returns-clause-opened g c clean =
    let was = c.in_ok-history.ensures.taken clean in
    record {
      was = c.in_ok-conn.conn;
      found = c.in_ok-conn.ensures.found was.0;
      same = was.1;
      keeps = was.2;
    }
