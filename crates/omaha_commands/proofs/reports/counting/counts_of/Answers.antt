use Rattle.std.proofs.Common.{length, sym, ap, ◌∙◌, subst, arith}
use Rattle.catalogue.specs.Validity.{IsValid}
use Rattle.catalogue.specs.declared.content.App.{App}
use Rattle.omaha_commands.proofs.CountLemmas.{few_so_far}
use Rattle.omaha_commands.specs.declared.reports.counting.Counts.{Counts}
use Rattle.omaha_commands.proofs.reports.counting.counts_of.Goals as goal

pub overflow_add-counts : goal.overflow_add-counts
overflow_add-counts c =
    let apps = c.apps-app-items.result.now in
    let app = c.app-item.result in
    let few =
    few_so_far (λ (other : App). length other.releases) apps c.loop-app.app-index c.loop-app.counts.releases (length c.as_slice.result.now) app
    (subst IsValid (sym c.apps-app-items.ensures) c.validity.ensures) (λ other valid. let most = valid.few_releases in omega arith) c.loop-app-test.true
    (ap (λ (counts : Counts). counts.releases) c.loop-app.invariant)
    (ap length c.as_slice.ensures ∙ ap (λ (other : App). length other.releases) c.app-item.is)
    in
    omega arith

pub overflow_add-counts-in-loop-app : goal.overflow_add-counts-in-loop-app
overflow_add-counts-in-loop-app c =
    let apps = c.apps-app-items.result.now in
    let app = c.app-item.result in
    let few =
    few_so_far (λ (other : App). length other.diffs) apps c.loop-app.app-index c.loop-app.counts.diffs (length c.as_slice-in-loop-app.result.now) app
    (subst IsValid (sym c.apps-app-items.ensures) c.validity.ensures) (λ other valid. valid.few_diffs) c.loop-app-test.true
    (ap (λ (counts : Counts). counts.diffs) c.loop-app.invariant)
    (ap length c.as_slice-in-loop-app.ensures ∙ ap (λ (other : App). length other.diffs) c.app-item.is)
    in
    omega arith

pub overflow_add-counts-in-loop-app-2 : goal.overflow_add-counts-in-loop-app-2
overflow_add-counts-in-loop-app-2 c =
    let apps = c.apps-app-items.result.now in
    let app = c.app-item.result in
    let few =
    few_so_far (λ (other : App). length other.cohorts) apps c.loop-app.app-index c.loop-app.counts.cohorts (length c.as_slice-in-loop-app-2.result.now) app
    (subst IsValid (sym c.apps-app-items.ensures) c.validity.ensures) (λ other valid. let most = valid.few_cohorts in omega arith) c.loop-app-test.true
    (ap (λ (counts : Counts). counts.cohorts) c.loop-app.invariant)
    (ap length c.as_slice-in-loop-app-2.ensures ∙ ap (λ (other : App). length other.cohorts) c.app-item.is)
    in
    omega arith
