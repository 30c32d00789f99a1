-- The faults of an added app, in their order; this project's profile.
use Rattle.std.specs.Prelude.{not, nat_le, Bool, List, [], ◌∷◌, length, is_some}
use Rattle.catalogue.specs.Forms.{is_app_id, is_cohort_name}
use Rattle.catalogue.specs.Limits.{max_apps}
use Rattle.catalogue.specs.Lookups.{app_of}
use Rattle.catalogue.specs.declared.content.App.{App}
use Rattle.catalogue.specs.declared.edits.apps.AddApp.{AddApp}
use Rattle.catalogue.specs.declared.fault.Fault.{Fault}
use Rattle.catalogue.specs.declared.fault.Fault.TheVariants as fault

-- its identifier, its default cohort's name, that it is new, that there is room
abbrev pub tests_of_add_app : List App → AddApp → List (Bool × Fault)
tests_of_add_app apps e =
    (not (is_app_id e.app), fault.BadAppId)
    ∷ (not (is_cohort_name e.default), fault.BadName)
    ∷ (is_some (app_of apps e.app), fault.AppExists)
    ∷ (nat_le max_apps (length apps), fault.Limit)
    ∷ []
