-- What is known of an app that may be added.
use Rattle.std.proofs.Common.{◌≡◌, ◌<◌, true, List, length, None}
use Rattle.std.proofs.lemmas.Bool.{leb-false}
use Rattle.catalogue.proofs.AcceptedLemmas.{None-from_not_some, NoneHold-first_fault, true-from_not}
use Rattle.catalogue.specs.Edits.Apps.{tests_of_add_app}
use Rattle.catalogue.specs.Faults.{first_fault}
use Rattle.catalogue.specs.Forms.{is_app_id, is_cohort_name}
use Rattle.catalogue.specs.Limits.{max_apps}
use Rattle.catalogue.specs.Lookups.{app_of}
use Rattle.catalogue.specs.declared.content.App.{App}
use Rattle.catalogue.specs.declared.edits.apps.AddApp.{AddApp}

-- an accepted app: its identifier and its cohort's name are valid, it is new, there is room
pub record TakesApp (apps : List App) (e : AddApp) : Type 0 where
  pub identified : is_app_id e.app ≡ true
  pub named : is_cohort_name e.default ≡ true
  pub new_app : app_of apps e.app ≡ None
  pub room : length apps < max_apps

pub TakesApp-from_no_fault :
    (apps : List App) (e : AddApp) →
    first_fault (tests_of_add_app apps e) ≡ None →
    TakesApp apps e
TakesApp-from_no_fault apps e h =
    let tests = NoneHold-first_fault (tests_of_add_app apps e) h in
    record {
      identified = true-from_not _ tests.0;
      named = true-from_not _ tests.1.0;
      new_app = None-from_not_some _ tests.1.1.0;
      room = leb-false max_apps (length apps) tests.1.1.1.0;
    }
