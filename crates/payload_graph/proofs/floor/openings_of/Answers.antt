use Rattle.std.proofs.Common.{◌≡◌, ap, ◌∙◌, rules}
use Rattle.std.specs.List.{filter}
use Rattle.std.proofs.lemmas.Fn.{always_returns_same}
use Rattle.std.proofs.lemmas.List.Sorted.{IsNonDecreasingBy-from_sort_by_key}
use Rattle.payload_graph.specs.Net.{leaves}
use Rattle.payload_graph.specs.declared.edge.Edge.{Edge}
use Rattle.payload_graph.proofs.OpeningLemmas.{filter-late, filter-stable}
use Rattle.payload_graph.proofs.floor.openings_of.Goals as goal

pub returns : goal.returns
returns c = record {
  sorted = IsNonDecreasingBy-from_sort_by_key (λ (edge : Edge). edge.from) c.sort_by_key.new.self.items c.in_ok-sort_by_key.ensures.sorted (λ a r f called. search rules);
  right = λ index.
      filter-stable c.in_ok-edges.edges.items c.sort_by_key.new.self.items (c.in_ok-sort_by_key.ensures.stable (λ (edge : Edge). edge.from) (always_returns_same _ (λ a r. r ≡ a.0.now.from) _ (λ a r f called. search rules))) index
      ∙ ap (filter (leaves index)) c.in_ok-edges.ensures
      ∙ filter-late c.args.doors.now index;
}
