use Rattle.catalogue.proofs.OrderLemmas.{is_below-irreflexive, is_below-total, is_below-trans}
use Rattle.catalogue.proofs.version_laws.order.Goals as goal

pub returns : goal.returns
returns c = record {
  irreflexive = is_below-irreflexive;
  transitive = is_below-trans;
  total = is_below-total;
}
