use Rattle.std.proofs.Common.{sym, ap, List}
use Rattle.values.proofs.ChangeLemmas.{change-Some, change-None}
use Rattle.catalogue.specs.Changes.{with_cohort}
use Rattle.catalogue.specs.Lookups.{is_app}
use Rattle.catalogue.specs.declared.content.Cohort.{Cohort}
use Rattle.catalogue.proofs.change.add_cohort_to.Goals as goal

pub returns-in_ok-push_cohort : goal.returns-in_ok-push_cohort
returns-in_ok-push_cohort c =
    let app = c.item_mut-app.result.now in
    change-Some (is_app c.args.id.now) (with_cohort c.args.cohort) c.args.apps.now c.in-Some.index app _ (sym c.in-Some.ensures) c.item_mut-app.ensures.value
    (ap (λ (cohorts : List Cohort). record app { cohorts = cohorts }) c.in_ok-push_cohort.ensures)

pub returns-in_default : goal.returns-in_default
returns-in_default c = change-None (is_app c.args.id.now) (with_cohort c.args.cohort) c.args.apps.now (sym c.in_default.ensures)
