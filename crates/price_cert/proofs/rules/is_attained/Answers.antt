use Rattle.std.proofs.Common.{rules, sym, ap, ◌∙◌}
use Rattle.std.proofs.lemmas.Iterator.Consumers.{YieldsList-from_first}
use Rattle.std.proofs.lemmas.Iterator.Search.{any_from_yields_List}
use borrow.Author.Tests.{tests}
use Rattle.payload_graph.specs.Edges.{edges_left}
use Rattle.payload_graph.specs.Net.{edges_from}
use Rattle.payload_graph.specs.declared.edge.Edge.{Edge}
use Rattle.price_cert.specs.Rules.{is_attained, is_next}
use Rattle.price_cert.proofs.rules.is_attained.Goals as goal

pub returns-in-Price : goal.returns-in-Price
returns-in-Price c =
    any_from_yields_List (is_next c.args.rows.now c.in-Price.price c.in-Price.kind c.in-Price.to) c.any.new.self _ _ c.any.ensures.ran
    (YieldsList-from_first (λ (edge : Edge). edge) edges_left (edges_from c.args.graph.now c.args.from) c.edges_from.ensures.edges)
    (λ x b q k. search (rules, tests))
    ∙ sym (ap (is_attained c.args.graph.now c.args.rows.now c.args.from) c.in-Price.is)
