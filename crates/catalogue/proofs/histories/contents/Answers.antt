-- The edits of a content add each item at the end of what is there.
use Rattle.catalogue.proofs.ContentLemmas.{outcome-edits_of_content}
use Rattle.catalogue.proofs.KeyLemmas.{VersionLaws}
use Rattle.catalogue.proofs.histories.contents.Goals as goal

pub returns : goal.returns
returns c =
    let laws : VersionLaws = record {
      irreflexive = c.order.ensures.irreflexive;
      transitive = c.order.ensures.transitive;
      total = c.order.ensures.total;
    } in
    λ apps valid. outcome-edits_of_content laws c.spellings.ensures apps valid
