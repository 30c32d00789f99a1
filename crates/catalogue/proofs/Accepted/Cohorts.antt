-- What is known of a cohort that may be added.
use Rattle.std.proofs.Common.{◌≡◌, ◌<◌, true, false, List, length, Some, None}
use Rattle.std.proofs.lemmas.Bool.{leb-false}
use Rattle.catalogue.proofs.AcceptedLemmas.{NoneHold-first_fault, Some-from_not_none, true-from_not}
use Rattle.catalogue.specs.Edits.Cohorts.{tests_of_add_cohort}
use Rattle.catalogue.specs.Faults.{first_fault}
use Rattle.catalogue.specs.Forms.{is_cohort_name}
use Rattle.catalogue.specs.Limits.{max_cohorts}
use Rattle.catalogue.specs.Lookups.{app_of, has_cohort}
use Rattle.catalogue.specs.declared.content.App.{App}
use Rattle.catalogue.specs.declared.edits.cohorts.AddCohort.{AddCohort}

-- an accepted cohort: its app is there, its name is valid, it is new, there is room
pub record TakesCohort (apps : List App) (e : AddCohort) : Type 0 where
  pub app : App
  pub found : app_of apps e.app ≡ Some app
  pub named : is_cohort_name e.cohort ≡ true
  pub new_name : has_cohort app.cohorts e.cohort ≡ false
  pub room : length app.cohorts < max_cohorts

pub TakesCohort-from_no_fault :
    (apps : List App) (e : AddCohort) →
    first_fault (tests_of_add_cohort apps e) ≡ None →
    TakesCohort apps e
TakesCohort-from_no_fault apps e h =
    let tests = NoneHold-first_fault (tests_of_add_cohort apps e) h in
    let some = Some-from_not_none (app_of apps e.app) tests.0 in
    let found = some.1 in
    record {
      app = some.0;
      found = found;
      named = true-from_not _ tests.1.0;
      new_name = rw found at tests.1.1.0;
      room = leb-false max_cohorts (length some.0.cohorts) (rw found at tests.1.1.1.0);
    }
