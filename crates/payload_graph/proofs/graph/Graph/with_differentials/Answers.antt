use Rattle.std.proofs.Common.{◌≡◌, List, Option, IfOk, length, sym, ap, ◌∙◌, subst}
use Rattle.payload_graph.proofs.DifferLemmas.{AreResolved-app}
use Rattle.payload_graph.proofs.TrackLemmas.{AreBounded-app, AreValid-app, app-there, net_among-there, net_in_app-own, resolved_at-there}
use Rattle.payload_graph.specs.Net.{Net}
use Rattle.payload_graph.specs.Soundness.{AreResolved, net_in_app}
use Rattle.payload_graph.specs.declared.edge.Edge.{Edge}
use Rattle.payload_graph.proofs.graph.Graph.with_differentials.Goals as goal

pub graph_in_app-requires-clause-bounded : goal.graph_in_app-requires-clause-bounded
graph_in_app-requires-clause-bounded c =
    let apps = c.args.catalogue.now in
    let app = c.index-apps-key.result in
    let item = rw c.apps.ensures at c.index-apps-key.is in
    AreBounded-app apps c.args.key.now.app app c.validity.ensures (app-there apps c.args.key.now.app app c.requires.app item)

pub graph_in_app-requires-clause-resolved : goal.graph_in_app-requires-clause-resolved
graph_in_app-requires-clause-resolved c =
    let apps = c.args.catalogue.now in
    let app = c.index-apps-key.result in
    let item = rw c.apps.ensures at c.index-apps-key.is in
    let there = app-there apps c.args.key.now.app app c.requires.app item in
    let own = c.as_slice.ensures.value ∙ c.differentials.view_is ∙ c.requires.resolved ∙ resolved_at-there apps c.args.key.now.app app there in
    subst (λ (edges : List Edge). AreResolved (length app.releases) edges) (sym own)
    (AreResolved-app c.order.ensures.irreflexive c.order.ensures.transitive app (AreValid-app apps c.args.key.now.app app c.validity.ensures there))

pub returns : goal.returns
returns c =
    let apps = c.args.catalogue.now in
    let app = c.index-apps-key.result in
    let item = rw c.apps.ensures at c.index-apps-key.is in
    let there = app-there apps c.args.key.now.app app c.requires.app item in
    let own = c.as_slice.ensures.value ∙ c.differentials.view_is ∙ c.requires.resolved ∙ resolved_at-there apps c.args.key.now.app app there in
    let net = ap (net_in_app app c.args.key.now) own
    ∙ net_in_app-own c.order.ensures.irreflexive c.order.ensures.transitive app c.args.key.now (AreValid-app apps c.args.key.now.app app c.validity.ensures there)
    ∙ sym (net_among-there apps c.args.key.now app there) in
    subst (λ (n : Option Net). IfOk c.graph_in_app.result (λ graph. graph ≡ n)) net c.graph_in_app.ensures
