use Rattle.std.proofs.Common.{subst}
use Rattle.payload_graph.proofs.NearerLemmas.{edges_lead_nearer}
use Rattle.payload_graph.specs.Net.{Net}
use Rattle.payload_graph.specs.Soundness.{IsSound}
use Rattle.payload_graph.proofs.graph.Graph.edges_from.Goals as goal

pub returns-clause-nearer : goal.returns-clause-nearer
returns-clause-nearer c =
    let sound = subst (λ (net : Net). IsSound net c.self.inside.reaches.items c.self.inside.late.items) c.self.view_is c.self.invariant in
    edges_lead_nearer c.args.self.now c.args.from sound.numbered sound.nearing sound.within c.requires
