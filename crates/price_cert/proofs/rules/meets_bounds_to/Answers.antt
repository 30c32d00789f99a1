use Rattle.std.proofs.Common.{rules}
use Rattle.std.proofs.lemmas.Iterator.Consumers.{YieldsList-from_first}
use Rattle.std.proofs.lemmas.Iterator.Search.{all_from_yields_List}
use borrow.Author.Tests.{tests}
use Rattle.payload_graph.specs.Edges.{edges_left}
use Rattle.payload_graph.specs.Net.{edges_from}
use Rattle.payload_graph.specs.declared.edge.Edge.{Edge}
use Rattle.price_cert.specs.Rules.{is_bounded_to}
use Rattle.price_cert.proofs.rules.meets_bounds_to.Goals as goal

pub returns : goal.returns
returns c =
    all_from_yields_List (is_bounded_to c.args.rows.now c.args.row c.args.to) c.all.new.self _ _ c.all.ensures.ran
    (YieldsList-from_first (λ (edge : Edge). edge) edges_left (edges_from c.args.graph.now c.args.from) c.edges_from.ensures.edges)
    (λ x b q k. search (rules, tests))
