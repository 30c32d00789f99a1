use Rattle.std.proofs.Common.{inl, inr, sym, ap, ◌∙◌, arith}
use Rattle.std.proofs.lemmas.Bool.{cases_eq}
use Rattle.catalogue.specs.declared.content.Diff.{Diff}
use Rattle.payload_graph.specs.Chains.{index_of}
use Rattle.payload_graph.proofs.WalkLemmas.{AreValid, HasWalked-more, ends_above}
use Rattle.payload_graph.proofs.differential.resolve.Goals as goal

pub seek-to-requires : goal.seek-to-requires
seek-to-requires c =
    let releases = c.args.releases.now in
    let item = c.shared-item.result in
    let is = c.shared-item.is in
    let are : AreValid releases c.args.diffs.now = record { rises = c.requires.rises; sorted = c.requires.sorted; good = c.requires.good } in
    let origin = ap (λ (diff : Diff). index_of releases diff.from) is in
    let destination = ap (λ (diff : Diff). index_of releases diff.to) is in
    let end = ap (λ (diff : Diff). index_of releases diff.to) c.get-diff.ensures in
    let next = c.seek-next.ensures ∙ ap (λ (diff : Diff). index_of releases diff.from) c.get-diff.ensures in
    elim (cases_eq c.seek-next.result c.loop-shared.from) [
      | inl same ↦
          let start = c.first_end-start.ensures.same same in
          let low = c.loop-shared.invariant.to_low c.loop-shared.shared-index item (omega arith) c.loop-shared-test.true (sym origin ∙ sym next ∙ same) in
          omega arith
      | inr other ↦
          let start = c.first_end-start.ensures.other other in
          let rising = ends_above c.order.ensures.irreflexive c.order.ensures.transitive releases c.args.diffs.now are c.loop-shared.shared-index item c.loop-shared-test.true in
          omega arith
    ]

pub loop-shared-preserved : goal.loop-shared-preserved
loop-shared-preserved c =
    let are : AreValid c.args.releases.now c.args.diffs.now = record { rises = c.requires.rises; sorted = c.requires.sorted; good = c.requires.good } in
    let releases = c.args.releases.now in
    let start = c.seek-next.ensures ∙ ap (λ (diff : Diff). index_of releases diff.from) c.get-diff.ensures in
    let end = c.seek-to.ensures ∙ ap (λ (diff : Diff). index_of releases diff.to) c.get-diff.ensures in
    let size = ap (λ (diff : Diff). diff.size) c.get-diff.ensures in
    rw c.in_ok-push.ensures.items
    (rw size
    (HasWalked-more c.order.ensures.irreflexive c.order.ensures.transitive c.args.releases.now c.args.diffs.now are c.loop-shared.shared-index c.loop-shared.from c.loop-shared.to c.seek-next.result c.seek-to.result c.loop-shared.edges.items c.shared-item.result c.loop-shared.invariant c.loop-shared-test.true c.shared-item.is start end))
