-- Every accepted edit keeps the content valid, so all edits of a history do.
use Rattle.std.proofs.Common.{[]}
use Rattle.catalogue.specs.Histories.{edits_of}
use Rattle.catalogue.proofs.HistoryLemmas.{Makes-from_run}
use Rattle.catalogue.proofs.KeyLemmas.{VersionLaws}
use Rattle.catalogue.proofs.ValidityLemmas.{IsValid-empty}
use Rattle.catalogue.proofs.ValidHistoryLemmas.{IsValid-Makes}
use Rattle.catalogue.proofs.histories.validity.Goals as goal

pub returns : goal.returns
returns c =
    let laws : VersionLaws = record {
      irreflexive = c.order.ensures.irreflexive;
      transitive = c.order.ensures.transitive;
      total = c.order.ensures.total;
    } in
    λ history apps led.
    IsValid-Makes laws c.spellings.ensures c.printing.ensures.plain (edits_of history) [] apps (Makes-from_run history [] apps led) IsValid-empty
