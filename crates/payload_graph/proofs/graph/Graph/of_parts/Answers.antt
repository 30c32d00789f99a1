use Rattle.std.proofs.Common.{◌≡◌, true, subst, length, ap, sym, ◌∙◌, arith, rules}
use Rattle.std.proofs.lemmas.List.Elements.{All-filter}
use Rattle.std.proofs.lemmas.List.Kept.{IsNonDecreasingBy-filter}
use Rattle.catalogue.specs.Forms.{is_size}
use Rattle.payload_graph.proofs.ReachedLemmas.{All-reached}
use Rattle.payload_graph.specs.Soundness.{AreResolved, is_reached}
use Rattle.payload_graph.specs.declared.edge.Edge.{Edge}
use Rattle.payload_graph.proofs.DoorLemmas.{All-sized-doors_of, AreNumbered-doors_of, length-doors_of}
use Rattle.payload_graph.proofs.graph.Graph.of_parts.Goals as goal

pub reaches_of-requires : goal.reaches_of-requires
reaches_of-requires c =
    let sized = length-doors_of c.args.cohort.now c.args.key.now.pin c.args.releases.now in
    let same = ap length c.in_ok-doors.ensures in
    let shown = ap length c.as_slice.ensures.value in
    omega arith

pub reached_in-requires-clause-within : goal.reached_in-requires-clause-within
reached_in-requires-clause-within c =
    let sized = length-doors_of c.args.cohort.now c.args.key.now.pin c.args.releases.now in
    let same = ap length c.in_ok-doors.ensures in
    let shown = ap length c.as_slice-2.ensures.value in
    omega arith

pub reached_in-requires-clause-resolved : goal.reached_in-requires-clause-resolved
reached_in-requires-clause-resolved c =
    let sized = length-doors_of c.args.cohort.now c.args.key.now.pin c.args.releases.now in
    let count = ap length c.as_slice-2.ensures.value ∙ ap length c.in_ok-doors.ensures ∙ sized in
    subst (λ n. AreResolved n c.args.resolved.now) (sym count) c.requires.resolved

pub invariant_of-result : goal.invariant_of-result
invariant_of-result c =
    let sized = length-doors_of c.args.cohort.now c.args.key.now.pin c.args.releases.now in
    let same = ap length c.in_ok-doors.ensures in
    record {
      within = omega arith;
      numbered = rw c.in_ok-doors.ensures (AreNumbered-doors_of c.args.cohort.now c.args.key.now.pin c.args.releases.now);
      reached = rw c.as_slice.ensures.value at c.in_ok-reaches.ensures;
      opened = rw c.as_slice-4.ensures.value at c.in_ok-late.ensures;
      sorted =
          rw c.in_ok-differs.ensures
          (IsNonDecreasingBy-filter (λ (edge : Edge). edge.from) (is_reached c.args.target c.as_slice-2.result.now) c.args.resolved.now c.requires.resolved.sorted);
      nearing =
          rw c.in_ok-differs.ensures
          (All-reached c.args.target (length c.args.releases.now) c.as_slice-2.result.now c.args.resolved.now (omega (arith, ap length c.as_slice-2.ensures.value)) c.requires.resolved);
      bounded = record {
        few = omega (arith, c.requires.bounded.few);
        doors_sized = rw c.in_ok-doors.ensures (All-sized-doors_of c.args.cohort.now c.args.key.now.pin c.args.releases.now c.requires.bounded);
        differs_sized =
            rw c.in_ok-differs.ensures
            (All-filter (is_reached c.args.target c.as_slice-2.result.now) (λ (edge : Edge). is_size edge.bytes ≡ true) c.args.resolved.now c.requires.resolved.sized);
      };
    }

pub returns : goal.returns
returns c = search rules
