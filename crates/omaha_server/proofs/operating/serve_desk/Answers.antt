use Rattle.service_desks.specs.States.{store}
use Rattle.server_ports.specs.Passages.{passage_of}
use Rattle.omaha_server.specs.Overviews.{overview}
use Rattle.omaha_server.proofs.AlongLemmas.{AreOperated-along}
use Rattle.omaha_server.proofs.operating.serve_desk.Goals as goal

pub returns : goal.returns
returns g c =
    let (press, budgets, records, due, operated) =
    AreOperated-along g.S.System.edges (λ d. d.setup.now)
    (λ d. d.press.ghost_name) (λ d. d.budgets.ghost_name) (λ d. d.records.ghost_name) (λ d. d.due.ghost_name)
    (λ d. overview (record {
      mirrors = g.B.Budgets.present d.budgets.now;
      history = d.press.now;
      store = store (g.K.Records.first d.records.now) (g.K.Records.kept d.records.now) d.due.now;
    }) d.counts d.publishes d.ending) _ c.args.setup.now
    (g.P.Port.terms c.args.port) (passage_of g.P.Port.terms g.P.Port.slots g.P.Port.accepted c.serve_new.result.port)
    c.args.checked.now c.serve_new.new.desk (λ old call new stepped. (stepped.0, stepped.1, stepped.2, stepped.3, stepped.4, stepped.5)) c.requires c.serve_new.ensures.served in
    record {
      same_press = press;
      same_budgets = budgets;
      same_records = records;
      same_due = due;
      operated = operated;
      log = c.serve_new.ensures.log;
    }
