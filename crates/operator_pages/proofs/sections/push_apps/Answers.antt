use Rattle.std.proofs.Common.{rules, ◌≡◌, ◌++◌, ◌+◌, ◌<◌, ◌∙◌, ap, drop, flat_map, get_or, length, string_bytes, sym, ℕ, List}
use Rattle.std.specs.List.{zip}
use Rattle.catalogue.specs.declared.content.App.{App}
use Rattle.operator_pages.specs.Sections.{app_section}
use Rattle.operator_pages.specs.declared.sights.AppSight.{AppSight}
use Rattle.operator_pages.proofs.ZipLemmas.{zip-end, zip-next}
use Rattle.operator_pages.proofs.sections.push_apps.Goals as goal

pub loop-index-preserved : goal.loop-index-preserved
loop-index-preserved c =
    let apps = c.args.apps.now in
    let sights = c.args.sights.now in
    let index = c.loop-index.index in
    let before = string_bytes c.loop-index.text in
    let others = flat_map app_section (drop (index + 1) (zip apps sights)) in
    let app = c.index-apps-index.result in
    let sight = c.index-sights-index.result in
    let left : index < length apps = search rules in
    let right : index < length sights = search rules in
    let pushed : string_bytes c.push_app.new.text ≡ before ++ app_section (get_or apps index app, get_or sights index sight) =
    c.in_ok-push_app.ensures
    ∙ ap (λ (it : App). before ++ app_section (it, sight)) c.index-apps-index.is
    ∙ ap (λ (it : AppSight). before ++ app_section (get_or apps index app, it)) c.index-sights-index.is
    in
    ap (λ (it : List ℕ). it ++ others) pushed ∙ zip-next app_section before apps sights index app sight left right ∙ c.loop-index.invariant

pub returns : goal.returns
returns c =
    sym (zip-end app_section (string_bytes c.loop-index.text) c.args.apps.now c.args.sights.now c.loop-index.index (search rules)) ∙ c.loop-index.invariant
