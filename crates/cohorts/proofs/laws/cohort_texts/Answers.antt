use Rattle.cohorts.proofs.CohortTextLemmas.{parsed-printed, printed-parsed}
use Rattle.cohorts.proofs.laws.cohort_texts.Goals as goal

pub returns : goal.returns
returns c = record { printed = parsed-printed; parsed = printed-parsed }
