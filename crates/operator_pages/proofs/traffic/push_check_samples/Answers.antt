use Rattle.std.proofs.Common.{rules, ◌≡◌, ◌++◌, ◌+◌, ◌<◌, ◌∙◌, ap, drop, flat_map, get_or, length, string_bytes, sym, ℕ, List}
use Rattle.std.specs.List.{zip}
use Rattle.catalogue.specs.declared.content.App.{App}
use Rattle.tallies.specs.declared.totals.CheckTotals.{CheckTotals}
use Rattle.operator_pages.specs.Traffic.{checks_of_app}
use Rattle.operator_pages.proofs.ZipLemmas.{zip-end, zip-next}
use Rattle.operator_pages.proofs.traffic.push_check_samples.Goals as goal

pub loop-index-preserved : goal.loop-index-preserved
loop-index-preserved c =
    let apps = c.args.apps.now in
    let checks = c.args.checks.now in
    let index = c.loop-index.index in
    let line = checks_of_app in
    let before = string_bytes c.loop-index.text in
    let others = flat_map line (drop (index + 1) (zip apps checks)) in
    let app = c.index-apps-index.result in
    let own = c.index-checks-index.result in
    let left : index < length apps = search rules in
    let right : index < length checks = search rules in
    let pushed : string_bytes c.push_checks_of_app.new.text ≡ before ++ line (get_or apps index app, get_or checks index own) =
    c.in_ok-push_checks_of_app.ensures
    ∙ ap (λ (it : App). before ++ line (it, c.as_slice.result.now)) c.index-apps-index.is
    ∙ ap (λ (it : List CheckTotals). before ++ line (get_or apps index app, it)) (c.as_slice.ensures ∙ c.index-checks-index.is)
    in
    ap (λ (it : List ℕ). it ++ others) pushed ∙ zip-next line before apps checks index app own left right ∙ c.loop-index.invariant

pub returns : goal.returns
returns c =
    sym (zip-end (checks_of_app) (string_bytes c.loop-index.text) c.args.apps.now c.args.checks.now c.loop-index.index (search rules)) ∙ c.loop-index.invariant
