use Rattle.std.proofs.Common.{sym}
use Rattle.values.proofs.ChangeLemmas.{change-Some, change-None}
use Rattle.catalogue.specs.Lookups.{is_cohort}
use Rattle.catalogue.specs.Changes.{with_setting}
use Rattle.catalogue.proofs.change.set_in_cohorts.Goals as goal

pub returns-in-Some : goal.returns-in-Some
returns-in-Some c =
    change-Some (is_cohort c.args.name.now) (with_setting c.args.setting) c.args.cohorts.now c.in-Some.index c.item_mut-cohort.result.now _ (sym c.in-Some.ensures) c.item_mut-cohort.ensures.value c.set.ensures

pub returns-in_default : goal.returns-in_default
returns-in_default c =
    change-None (is_cohort c.args.name.now) (with_setting c.args.setting) c.args.cohorts.now (sym c.in_default.ensures)
