use Rattle.std.proofs.Common.{sym, ap, List}
use Rattle.values.proofs.ChangeLemmas.{change-Some, change-None}
use Rattle.catalogue.specs.Lookups.{is_app}
use Rattle.catalogue.specs.Changes.{in_cohort, with_setting}
use Rattle.catalogue.specs.declared.content.Cohort.{Cohort}
use Rattle.catalogue.proofs.change.set_cohort_in_apps.Goals as goal

pub returns-in-Some : goal.returns-in-Some
returns-in-Some c =
    let app = c.item_mut-app.result.now in
    change-Some (is_app c.args.id.now) (in_cohort c.args.cohort.now (with_setting c.args.setting)) c.args.apps.now c.in-Some.index app _ (sym c.in-Some.ensures) c.item_mut-app.ensures.value
    (ap (λ (cohorts : List Cohort). record app { cohorts = cohorts }) c.set_in_cohorts.ensures)

pub returns-in_default : goal.returns-in_default
returns-in_default c =
    change-None (is_app c.args.id.now) (in_cohort c.args.cohort.now (with_setting c.args.setting)) c.args.apps.now (sym c.in_default.ensures)
