use Rattle.std.proofs.Common.{rules}
use Rattle.omaha_server.proofs.operating.operate.Goals as goal

pub returns : goal.returns
returns g c =
    let operated = rw c.new.ensures at (rw c.new-2.ensures at c.serve_desk-served.ensures.operated) in
    record {
      operated = (
        c.serve_desk-served.new.checked.counts,
        c.serve_desk-served.new.checked.publishes,
        search (operated, c.serve_desk-served.ensures.same_press, c.serve_desk-served.ensures.same_budgets, c.serve_desk-served.ensures.same_records, c.serve_desk-served.ensures.same_due, rules),
      );
      log = c.serve_desk-served.ensures.log;
    }
