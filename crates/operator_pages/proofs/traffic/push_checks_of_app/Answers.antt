use Rattle.std.proofs.Common.{rules, ◌≡◌, ◌++◌, ◌+◌, ◌<◌, ◌∙◌, ap, drop, flat_map, get_or, length, string_bytes, sym, ℕ, List}
use Rattle.std.specs.List.{zip}
use Rattle.catalogue.specs.declared.content.Cohort.{Cohort}
use Rattle.tallies.specs.declared.totals.CheckTotals.{CheckTotals}
use Rattle.operator_pages.specs.Traffic.{checks_of_cohort}
use Rattle.operator_pages.proofs.ZipLemmas.{zip-end, zip-next}
use Rattle.operator_pages.proofs.traffic.push_checks_of_app.Goals as goal

pub loop-index-preserved : goal.loop-index-preserved
loop-index-preserved c =
    let cohorts = c.as_slice-cohorts.result.now in
    let checks = c.args.checks.now in
    let index = c.loop-index.index in
    let line = checks_of_cohort c.args.app.now in
    let before = string_bytes c.loop-index.text in
    let others = flat_map line (drop (index + 1) (zip cohorts checks)) in
    let cohort = c.index-cohorts-index.result in
    let none : CheckTotals = record { offered = 0; noupdate = 0; internal = 0 } in
    let left : index < length cohorts = search rules in
    let right : index < length checks = search rules in
    let pushed : string_bytes c.push_checks_of_cohort.new.text ≡ before ++ line (get_or cohorts index cohort, get_or checks index none) =
    c.in_ok-push_checks_of_cohort.ensures ∙ ap (λ (it : Cohort). before ++ line (it, get_or checks index none)) c.index-cohorts-index.is
    in
    ap (λ (it : List ℕ). it ++ others) pushed ∙ zip-next line before cohorts checks index cohort none left right ∙ c.loop-index.invariant

pub returns : goal.returns
returns c =
    let line = checks_of_cohort c.args.app.now in
    let checks = c.args.checks.now in
    sym (zip-end line (string_bytes c.loop-index.text) c.as_slice-cohorts.result.now checks c.loop-index.index (search rules))
    ∙ c.loop-index.invariant
    ∙ ap (λ (it : List Cohort). string_bytes c.args.text.now ++ flat_map line (zip it checks)) c.as_slice-cohorts.ensures
