use Rattle.catalogue.proofs.PlaceLemmas.{ascend-releases_at}
use Rattle.catalogue.proofs.catalogue.Catalogue.find_release.Goals as goal

pub index_of_release-requires : goal.index_of_release-requires
index_of_release-requires c =
    rw c.releases.ensures (ascend-releases_at c.args.self.now c.args.app c.validity.ensures)
