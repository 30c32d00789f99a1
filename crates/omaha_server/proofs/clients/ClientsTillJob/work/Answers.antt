use Rattle.std.proofs.Common.{◌∙◌, ap, subst, sym}
use Rattle.publisher.specs.Sights.{Sight}
use Rattle.server_ports.specs.Passages.{passage_of}
use Rattle.omaha_server.specs.Serving.{IsWorkersPort}
use Rattle.omaha_server.proofs.AlongLemmas.{IsWorkersPort-along}
use Rattle.omaha_server.proofs.clients.ClientsTillJob.work.Goals as goal

pub returns : goal.returns
returns g c = λ single alone none.
    let edges = g.S.System.edges c.args.self.setup.now.system.now in
    let place = c.args.self.setup.now.place.now in
    let terms = g.P.Port.terms c.args.self.port in
    let passage = passage_of g.P.Port.terms g.P.Port.slots g.P.Port.accepted c.serve_new-served.result.port in
    let mirrors = g.T.Till.mirrors in
    let asks = g.T.Till.asks in
    let till = c.with_counter-desk.ensures.till in
    let first = c.with_counter-desk.result in
    let behind = c.serve_new-served.new.desk in
    let parts = c.into_parts-left.result in
    let served =
    IsWorkersPort-along (λ d. mirrors d.till) (λ d. d.view) (λ d. asks d.till) (λ d. g.T.Till.alone d.till) _ edges place terms single passage
    first behind (λ old call new stepped. (stepped.0, stepped.1, stepped.2))
    (λ is. subst g.T.Till.alone (sym till) (alone is)) (ap asks till ∙ none) c.serve_new-served.ensures.served in (
      subst (λ t. IsWorkersPort edges place terms single (mirrors t) c.args.self.view (record { sight = parts.0; asks = asks parts.1 }) passage) till
          (subst (λ (s : Sight). IsWorkersPort edges place terms single (mirrors first.till) s (record { sight = parts.0; asks = asks parts.1 }) passage) c.with_counter-desk.ensures.view
          (subst (λ (s : Sight). IsWorkersPort edges place terms single (mirrors first.till) first.view (record { sight = s; asks = asks parts.1 }) passage) (sym c.into_parts-left.ensures.view)
          (subst (λ t. IsWorkersPort edges place terms single (mirrors first.till) first.view (record { sight = behind.view; asks = asks t }) passage) (sym c.into_parts-left.ensures.till) served))),
      c.serve_new-served.ensures.log,
    )
