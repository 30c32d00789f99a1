use Rattle.catalogue.proofs.PlaceLemmas.{ascend-diffs_at}
use Rattle.catalogue.proofs.catalogue.Catalogue.find_diff.Goals as goal

pub index_of_diff-requires : goal.index_of_diff-requires
index_of_diff-requires c =
    rw c.diffs.ensures (ascend-diffs_at c.args.self.now c.args.app c.validity.ensures)
