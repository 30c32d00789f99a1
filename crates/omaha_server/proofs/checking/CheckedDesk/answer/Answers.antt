use Rattle.std.proofs.Common.{◌≡◌, ◌≢◌, ◌∙◌, ℕ, Bool, List, Option, ap, inl, inr, refl, rules, subst, sym}
use Rattle.http_desks.specs.Calls.{answer_in}
use Rattle.service_desks.specs.States.{State, Store, store}
use Rattle.operator_pages.specs.declared.counts.Outcome.{Outcome}
use Rattle.omaha_server.specs.Outcomes.{outcome_in, reach_in, status_word, stop_word}
use Rattle.operator_pages.specs.declared.publishes.Publish.{Publish}
use Rattle.omaha_server.specs.Overviews.{Overview, counted_at, has_more, overview, published_by, settled_count}
use Rattle.omaha_server.specs.Showing.{IsOverview, ShowsStatus}
use Rattle.omaha_server.proofs.CheckLemmas.{called-checked}
use Rattle.omaha_server.proofs.CountLemmas.{counts-nothing, ending-stopped, publishes-nothing, status-nothing, stop-nothing}
use Rattle.omaha_server.proofs.ShowLemmas.{is_overview, state_by, unmoved}
use Rattle.omaha_server.proofs.checking.CheckedDesk.answer.Goals as goal

pub returns-then-eq-2-clause-steps : goal.returns-then-eq-2-clause-steps
returns-then-eq-2-clause-steps g c =
    let desk = c.args.self.now in
    let kept : Store = store (g.K.Records.first desk.records.now) (g.K.Records.kept desk.records.now) desk.due.now in
    let mirrors = g.B.Budgets.present desk.budgets.now in
    let before : Overview = overview (state_by desk.press.now kept mirrors) desk.counts desk.publishes desk.ending in
    let known = c.circumstances_of-circumstances in
    let word : c.args.body.now ≡ status_word = search rules in
    let shown = subst (λ (v : List ℕ). ShowsStatus v before (answer_in c.show_status.result)) c.as_str-version.ensures
    (c.show_status.ensures.shows before
    (subst (λ (list : List Publish). IsOverview desk.press.now mirrors list known.result before) (sym c.as_slice-publishes.ensures)
    (is_overview desk.press.now kept mirrors known.result desk.counts desk.publishes desk.ending known.ensures.earlier known.ensures.counts known.ensures.ending))) in
    let published = has_more (settled_count desk.press.now desk.due.now) desk.press.now in
    let answer = answer_in c.show_status.result in
    let nothing = status-nothing published desk.setup.now.place.now.version c.args.body.now before answer word shown in (
      refl,
      refl,
      refl,
      refl,
      refl,
      (
        inl (inl (word, shown, unmoved desk.press.now kept _ _ desk.counts desk.publishes desk.ending c.show_status.ensures.present)),
        counts-nothing published c.args.body.now c.args.moment answer desk.counts nothing,
        publishes-nothing desk.press.now desk.due.now c.args.body.now c.args.moment answer
            (state_by desk.press.now kept (g.B.Budgets.present c.show_status.new.budgets)) desk.publishes nothing.0,
      ),
    )

pub returns-then-eq-clause-steps : goal.returns-then-eq-clause-steps
returns-then-eq-clause-steps g c =
    let desk = c.args.self.now in
    let kept : Store = store (g.K.Records.first desk.records.now) (g.K.Records.kept desk.records.now) desk.due.now in
    let state : State = state_by desk.press.now kept (g.B.Budgets.present desk.budgets.now) in
    let before : Overview = overview state desk.counts desk.publishes desk.ending in
    let after : Overview = overview state desk.counts desk.publishes c.stop_server.new.ending in
    let published = has_more (settled_count desk.press.now desk.due.now) desk.press.now in
    let answer = answer_in c.stop_server.result in
    let word : c.args.body.now ≡ stop_word = search rules in
    let ends = ending-stopped before after c.stop_server.result refl c.stop_server.ensures in
    let nothing = stop-nothing published c.args.body.now before after answer word ends in (
      refl,
      refl,
      refl,
      refl,
      refl,
      (
        inl (inr (inl (word, ends))),
        counts-nothing published c.args.body.now c.args.moment answer desk.counts nothing,
        publishes-nothing desk.press.now desk.due.now c.args.body.now c.args.moment answer state desk.publishes nothing.0,
      ),
    )

pub returns-clause-steps : goal.returns-clause-steps
returns-clause-steps g c =
    let desk = c.args.self.now in
    let asked = c.answer_checked-answered in
    let mirrors = g.B.Budgets.present desk.budgets.now in
    let first : Store = store (g.K.Records.first desk.records.now) (g.K.Records.kept desk.records.now) desk.due.now in
    let before : Overview = overview (state_by desk.press.now first mirrors) desk.counts desk.publishes desk.ending in
    let kept : Store = store (g.K.Records.first asked.new.records) (g.K.Records.kept asked.new.records) asked.new.due in
    let state : State = state_by asked.new.press kept (g.B.Budgets.present asked.new.budgets) in
    let after : Overview = overview state c.count_call-self.result c.note_publish.new.publishes desk.ending in
    let differs : c.args.body.now ≢ status_word = search rules in
    let unlike : c.args.body.now ≢ stop_word = search rules in
    let outcome : Option Outcome = outcome_in c.args.body.now (answer_in asked.result) in
    let grown = c.has_more-published.ensures ∙ ap (λ (count : ℕ). has_more count asked.new.press) c.settled_count-count.ensures in
    let more = has_more (settled_count desk.press.now desk.due.now) asked.new.press in
    let found = ap (λ (published : Bool). counted_at c.args.moment outcome (reach_in published c.args.body.now (answer_in asked.result)) desk.counts) grown in
    let noted = ap (λ (published : Bool). published_by outcome published c.publish_at-publish.result desk.publishes) grown
    ∙ ap (λ (publish : Publish). published_by outcome more publish desk.publishes) (c.publish_at-publish.ensures state refl refl) in (
      refl,
      refl,
      refl,
      refl,
      refl,
      (
        called-checked (g.S.System.edges desk.setup.now.system.now) desk.setup.now.place.now before after c.args.body.now
            c.args.moment (answer_in asked.result) differs unlike asked.ensures.called refl,
        c.count_call-self.ensures ∙ found,
        c.note_publish.ensures ∙ noted,
      ),
    )
