use Rattle.std.proofs.Common.{refl}
use Rattle.theorems.proofs.EventLawLemmas.{batches_are_published_whole, published_is_accepted, published_stays}
use Rattle.theorems.proofs.interleavings.laws.publishing.Goals as goal

pub returns : goal.returns
returns c =
    let quotes = c.rows.ensures in
    let graphs = c.graphs.ensures in
    let growth = c.growth.ensures in
    let prefixes = c.prefixes.ensures in
    let valid = c.validity.ensures in
    record {
      accepted = published_is_accepted quotes graphs growth prefixes valid;
      stays = published_stays quotes graphs growth prefixes valid;
      whole = batches_are_published_whole quotes graphs growth prefixes valid;
      turn = λ mirrors start workers events accepted known next. refl;
    }
