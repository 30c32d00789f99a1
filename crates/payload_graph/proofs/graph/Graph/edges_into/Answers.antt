use Rattle.std.proofs.Common.{◌≡◌, ◌<◌, ◌++◌, cond, List, [], length, get_or, sym, ap, ◌∙◌, arith}
use Rattle.std.specs.List.{filter}
use Rattle.payload_graph.proofs.IncomingLemmas.{edges_into-origins, entering_parts, entering}
use Rattle.payload_graph.specs.Edges.{edges_into_left}
use Rattle.payload_graph.specs.Net.{Net, edges_into, opens}
use Rattle.payload_graph.specs.Soundness.{no_door, origins_above, origins_below}
use Rattle.payload_graph.specs.declared.door.Door.{Door}
use Rattle.payload_graph.proofs.graph.Graph.edges_into.Goals.{then-self, else-self}
use Rattle.payload_graph.proofs.graph.Graph.edges_into.Goals as goal

pub returns : goal.returns
returns c =
    let g = c.self.inside in
    let to = c.args.to in
    let doors = c.as_slice-doors.result.now in
    let differs = c.as_slice-differs.result.now in
    let net : Net = record { key = g.key; target = g.target; rollback = g.rollback; doors = g.doors.items; differs = g.differs.items } in
    let sized = ap (λ (n : Net). length n.doors) c.self.view_is in
    let there : to < length g.doors.items = omega (arith, c.requires) in
    let above : c.if-self.above.now ≡ cond g.rollback (origins_above g.target doors to) [] = elim c.if-self.branch [
      | then-self w ↦
          ap (λ b. b.now) w.above-is
          ∙ w.origins_above-above.ensures
          ∙ sym (ap (λ b. cond b (origins_above g.target doors to) []) w.if-self.true)
      | else-self w ↦
          ap (λ b. b.now) w.above-is
          ∙ sym (ap (λ b. cond b (origins_above g.target doors to) []) w.if-self.false)
    ] in
    ap edges_into_left c.new.ensures
    ∙ entering_parts to doors c.origins_below-below.result.now c.if-self.above.now differs
    ∙ ap (λ (low : List Door). entering to doors (filter (λ (origin : Door). opens origin.to (get_or doors to no_door)) (low ++ c.if-self.above.now)) differs) c.origins_below-below.ensures
    ∙ ap (λ (high : List Door). entering to doors (filter (λ (origin : Door). opens origin.to (get_or doors to no_door)) (origins_below g.target doors to ++ high)) differs) above
    ∙ ap (λ (ds : List Door). entering to ds (filter (λ (origin : Door). opens origin.to (get_or ds to no_door)) (origins_below g.target ds to ++ cond g.rollback (origins_above g.target ds to) [])) differs) c.as_slice-doors.ensures.value
    ∙ ap (entering to g.doors.items (filter (λ (origin : Door). opens origin.to (get_or g.doors.items to no_door)) (origins_below g.target g.doors.items to ++ cond g.rollback (origins_above g.target g.doors.items to) []))) c.as_slice-differs.ensures.value
    ∙ sym (edges_into-origins net to c.self.invariant.numbered c.self.invariant.within there)
    ∙ ap (λ (n : Net). edges_into n to) c.self.view_is
