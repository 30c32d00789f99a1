use Rattle.std.proofs.Common.{ℕ, List, inl, refl, subst, sym}
use Rattle.http_desks.specs.Pages.{page_in}
use Rattle.service_desks.specs.States.{Store, store}
use Rattle.omaha_server.specs.Showing.{IsOverview, ShowsPage}
use Rattle.operator_pages.specs.declared.publishes.Publish.{Publish}
use Rattle.omaha_server.specs.Overviews.{Overview, overview}
use Rattle.omaha_server.proofs.ShowLemmas.{is_overview, state_by, unmoved}
use Rattle.omaha_server.proofs.checking.CheckedDesk.page.Goals as goal

pub returns-clause-steps : goal.returns-clause-steps
returns-clause-steps g c =
    let desk = c.args.self.now in
    let kept : Store = store (g.K.Records.first desk.records.now) (g.K.Records.kept desk.records.now) desk.due.now in
    let mirrors = g.B.Budgets.present desk.budgets.now in
    let before : Overview = overview (state_by desk.press.now kept mirrors) desk.counts desk.publishes desk.ending in
    let known = c.circumstances_of-circumstances in
    let shown = subst (λ (v : List ℕ). ShowsPage v before c.args.at.now (page_in c.show_page.result)) c.as_str-version.ensures
    (c.show_page.ensures.shows before
    (subst (λ (list : List Publish). IsOverview desk.press.now mirrors list known.result before) (sym c.as_slice-publishes.ensures)
    (is_overview desk.press.now kept mirrors known.result desk.counts desk.publishes desk.ending known.ensures.earlier known.ensures.counts known.ensures.ending))) in (
      refl,
      refl,
      refl,
      refl,
      refl,
      (inl (shown, unmoved desk.press.now kept _ _ desk.counts desk.publishes desk.ending c.show_page.ensures.present), refl, refl),
    )
