use Rattle.catalogue.proofs.HistoryLemmas.{Makes-from_outcome}
use Rattle.catalogue.proofs.OtherAppLemmas.{slice_get-Makes}
use Rattle.catalogue.proofs.histories.other_apps.Goals as goal

pub returns : goal.returns
returns c = λ batch apps made accepted index app at apart.
    slice_get-Makes index app batch apps made (Makes-from_outcome 0 batch apps made accepted) apart at
