-- The faults of an added cohort, in their order; this project's profile.
use Rattle.std.specs.Prelude.{not, nat_le, Bool, List, [], ◌∷◌, length, is_none}
use Rattle.catalogue.specs.Forms.{is_cohort_name}
use Rattle.catalogue.specs.Limits.{max_cohorts}
use Rattle.catalogue.specs.Lookups.{app_of, cohorts_of, has_cohort}
use Rattle.catalogue.specs.declared.content.App.{App}
use Rattle.catalogue.specs.declared.edits.cohorts.AddCohort.{AddCohort}
use Rattle.catalogue.specs.declared.fault.Fault.{Fault}
use Rattle.catalogue.specs.declared.fault.Fault.TheVariants as fault

-- the app, the form of its name, that it is new, that there is room
abbrev pub tests_of_add_cohort : List App → AddCohort → List (Bool × Fault)
tests_of_add_cohort apps e =
    (is_none (app_of apps e.app), fault.UnknownApp)
    ∷ (not (is_cohort_name e.cohort), fault.BadName)
    ∷ (has_cohort (cohorts_of apps e.app) e.cohort, fault.CohortExists)
    ∷ (nat_le max_cohorts (length (cohorts_of apps e.app)), fault.Limit)
    ∷ []
