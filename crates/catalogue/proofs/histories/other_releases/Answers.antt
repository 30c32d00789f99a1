use Rattle.catalogue.proofs.HistoryLemmas.{Makes-from_outcome}
use Rattle.catalogue.proofs.OtherReleaseLemmas.{HasReleasesOf-Makes}
use Rattle.catalogue.proofs.histories.other_releases.Goals as goal

pub returns : goal.returns
returns c = λ batch apps made accepted index app at apart.
    HasReleasesOf-Makes index app batch apps made (Makes-from_outcome 0 batch apps made accepted) apart at
