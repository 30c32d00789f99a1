use Rattle.std.proofs.Common.{ap}
use Rattle.omaha_server.proofs.running.published_run.Goals as goal

pub returns-in-Ok-clause-ok : goal.returns-in-Ok-clause-ok
returns-in-Ok-clause-ok g c =
    let all = c.into_parts-clients.ensures in
    let own = c.into_parts-served.ensures in
    let made = c.in-Ok.ensures in
    let published = rw (own.left, all.own, all.clients) at made.allowed in
    record {
      left = published.0;
      is = published.1;
      allowed = published.2;
      clients = rw all.clients at made.clients;
      operator = rw (own.served, all.own) at made.operator;
      log = rw (own.served, all.own, all.clients) at made.log;
      totals = ap (λ totals. totals.items) all.totals;
      whole = rw (own.ending, all.own) at made.whole;
    }
