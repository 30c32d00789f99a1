use Rattle.std.proofs.Common.{rules, sym, ap, ◌∙◌}
use Rattle.std.proofs.lemmas.Iterator.Consumers.{YieldsList-from_first}
use Rattle.std.proofs.lemmas.Iterator.Search.{all_from_yields_List}
use borrow.Author.Tests.{tests}
use Rattle.payload_graph.specs.Edges.{edges_left}
use Rattle.payload_graph.specs.Net.{edges_from}
use Rattle.payload_graph.specs.declared.edge.Edge.{Edge}
use Rattle.price_cert.specs.Rules.{comes_first, is_first_or_larger}
use Rattle.price_cert.proofs.rules.comes_first.Goals as goal

pub returns-in-Price : goal.returns-in-Price
returns-in-Price c =
    all_from_yields_List (is_first_or_larger c.args.rows.now c.in-Price.price c.in-Price.kind c.in-Price.to) c.all.new.self _ _ c.all.ensures.ran
    (YieldsList-from_first (λ (edge : Edge). edge) edges_left (edges_from c.args.graph.now c.args.from) c.edges_from.ensures.edges)
    (λ x b q k. search (rules, tests))
    ∙ sym (ap (comes_first c.args.graph.now c.args.rows.now c.args.from) c.in-Price.is)
