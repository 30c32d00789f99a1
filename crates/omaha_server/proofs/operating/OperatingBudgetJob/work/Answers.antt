use Rattle.std.proofs.Common.{◌≡◌, ◌∙◌, [], Option, Some, None, refl, subst, sym}
use Rattle.http_ports.specs.declared.terms.Terms.{Terms}
use Rattle.access_logs.specs.Queues.{Sending}
use Rattle.operator_pages.specs.Counts.{no_counts}
use Rattle.service_desks.specs.States.{publication}
use Rattle.server_ports.specs.Logging.{HasSent}
use Rattle.omaha_server.specs.OperatorPorts.{terms_left}
use Rattle.server_ports.specs.Passages.{passage_of}
use Rattle.omaha_server.specs.Serving.{IsOperated, begun, with_mirrors}
use Rattle.omaha_server.specs.Overviews.{overview, overview_at}
use Rattle.omaha_server.specs.declared.operating.OperatorPort.{OperatorPort}
use Rattle.omaha_server.specs.declared.operating.OperatorPort.TheVariants as variant
use Rattle.omaha_server.proofs.AlongLemmas.{LeadsPast-operated}
use Rattle.omaha_server.proofs.operating.OperatingBudgetJob.work.Goals as goal

-- no port is left to serve, if it isn't a new one
none_left : {P O : Type 0} (terms_of : P → Terms) (port : OperatorPort P O) → ((new : P) → port ≡ variant.New new → ⊥) → terms_left terms_of port ≡ None
none_left terms_of variant.Missing never = refl
none_left terms_of (variant.New new) never = absurd (never new refl)
none_left terms_of variant.Served never = refl

pub returns-in_default : goal.returns-in_default
returns-in_default g c =
    let edges = g.S.System.edges c.args.self.now.setup.now.system.now in
    let place = c.args.self.now.setup.now.place.now in
    let records = c.args.self.now.records in
    let first = begun c.args.self.now.press (g.K.Records.first records) (g.K.Records.kept records) in
    let before = overview_at 0 (with_mirrors (g.B.Budgets.present c.args.budgets.now) first) in
    record {
      raises = refl;
      comes = (
        first,
        [],
        0,
        no_counts 0,
        [],
        subst (λ (terms : Option Terms). IsOperated edges place terms before [] before None)
            (sym (none_left g.P.Port.terms c.args.self.now.port c.in_default.not-New)) (refl, refl),
        c.receipt.ensures,
        tt,
      );
    }

pub returns-clause-comes : goal.returns-clause-comes
returns-clause-comes g c =
    let edges = g.S.System.edges c.args.self.now.setup.now.system.now in
    let place = c.args.self.now.setup.now.place.now in
    let records = c.args.self.now.records in
    let made = c.operate-operation.result in
    let left = publication c.operate-operation.new.press (g.K.Records.first c.operate-operation.new.records)
    (g.K.Records.kept c.operate-operation.new.records) c.operate-operation.new.due in
    let before = overview_at made.started (with_mirrors (g.B.Budgets.present c.args.budgets.now)
    (begun c.args.self.now.press (g.K.Records.first records) (g.K.Records.kept records))) in
    let (counts, publishes, operated) = c.operate-operation.ensures.operated in
    let after = overview (with_mirrors (g.B.Budgets.present c.operate-operation.new.budgets) left) counts publishes made.ending in
    let passage = passage_of g.P.Port.terms g.P.Port.slots g.P.Port.accepted made.served.port in
    let (asked, past) = LeadsPast-operated edges place _ before after passage operated in (
      left,
      asked,
      made.started,
      counts,
      publishes,
      subst (λ (port : OperatorPort g.row.P.Denot _). IsOperated edges place (terms_left g.P.Port.terms port) before asked after (Some passage))
          (sym c.in-New-replace.is ∙ c.replace.ensures.value) (operated, past),
      c.receipt-left.ensures,
      subst (λ (line : Option Sending). HasSent (g.P.Port.slots made.served.port.port) line made.served.log) c.take.ensures.value
          c.operate-operation.ensures.log,
    )
