use Rattle.std.proofs.Common.{arith, sym}
use Rattle.std.proofs.lemmas.Grind.{common_steps}
use Rattle.catalogue.proofs.KeyLemmas.{VersionLaws}
use Rattle.catalogue.proofs.ValidityLemmas.{IsValid-after}
use Rattle.catalogue.proofs.draft.Draft.run.Goals as goal

pub loop-index-preserved : goal.loop-index-preserved
loop-index-preserved c =
    let done = c.in_ok-perform.ensures in
    let before = c.loop-index.invariant in
    let laws : VersionLaws = record {
      irreflexive = c.order.ensures.irreflexive;
      transitive = c.order.ensures.transitive;
      total = c.order.ensures.total;
    } in
    let valid = IsValid-after laws c.spellings.ensures c.printing.ensures.plain c.loop-index.self.apps c.index-edits-index.result (sym c.in_default.ensures) before.valid in
    record {
      indexed = done.indexed;
      valid = rw (sym done.content) at valid;
      onward = grind (arith, common_steps, done.content, before.onward, c.in_default.ensures);
    }
