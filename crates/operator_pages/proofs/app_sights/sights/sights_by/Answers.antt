use Rattle.std.proofs.Common.{rules, ◌≡◌, ◌<◌, ◌++◌, [], ◌∷◌, List, ap, get_or, length, subst, sym, take, true, ◌∙◌, arith}
use Rattle.std.proofs.lemmas.Grind.{common_steps}
use Rattle.values.specs.Ordered.{ascend}
use Rattle.catalogue.specs.Validity.{is_release_below}
use Rattle.catalogue.specs.declared.content.App.{App}
use Rattle.operator_pages.specs.declared.sights.AppSight.{AppSight}
use Rattle.operator_pages.specs.AppSights.{sight_by, sights_by}
use Rattle.operator_pages.proofs.SightLemmas.{releases-ascend, sights_by-more}
use Rattle.operator_pages.proofs.app_sights.sights.sights_by.Goals as goal

pub sight_by-requires : goal.sight_by-requires
sight_by-requires c =
    let apps = c.args.catalogue.now in
    let index = c.loop-index.index in
    let app = c.index-apps-index.result in
    let within : index < length apps = search rules in
    let item : app ≡ get_or apps index app = c.index-apps-index.is ∙ ap (λ (them : List App). get_or them index app) c.apps-apps.ensures in
    subst (λ (it : App). ascend is_release_below it.releases ≡ true) (sym item) (releases-ascend apps index app c.validity.ensures within)

pub loop-index-preserved : goal.loop-index-preserved
loop-index-preserved c =
    let apps = c.args.catalogue.now in
    let reviews = c.args.reviews.now in
    let index = c.loop-index.index in
    let app = c.index-apps-index.result in
    let sight = c.in_ok-sight.sight in
    let within : index < length apps = search rules in
    let item : app ≡ get_or apps index app = c.index-apps-index.is ∙ ap (λ (them : List App). get_or them index app) c.apps-apps.ensures in
    let seen : sight ≡ sight_by reviews index (get_or apps index app) = c.in_ok-sight.ensures ∙ ap (sight_by reviews index) item in
    c.in_ok-push.ensures.items
    ∙ ap (λ (them : List AppSight). them ++ sight ∷ []) c.loop-index.invariant
    ∙ ap (λ (it : AppSight). sights_by reviews (take index apps) ++ it ∷ []) seen
    ∙ sym (sights_by-more reviews apps index app within)

pub returns : goal.returns
returns c = grind (arith, common_steps)
