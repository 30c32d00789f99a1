use Rattle.std.proofs.Common.{rules, ◌≡◌, ◌++◌, ◌+◌, ◌<◌, ◌∙◌, ap, drop, flat_map, get_or, length, string_bytes, sym, ℕ, List}
use Rattle.std.specs.List.{zip}
use Rattle.service_desks.specs.Totals.{total_line}
use Rattle.service_desks.proofs.TotalLemmas.{totals-end, totals-next}
use Rattle.service_desks.proofs.services.totals.totals_string.Goals as goal

pub loop-index-preserved : goal.loop-index-preserved
loop-index-preserved c =
    let names = c.args.names.now in
    let totals = c.args.totals.now in
    let index = c.loop-index.index in
    let before = string_bytes c.loop-index.text in
    let others = flat_map total_line (drop (index + 1) (zip names totals)) in
    let name = c.index-names-index.result in
    let line : string_bytes c.in_ok-line.line ≡ total_line (get_or names index name, get_or totals index 0) = c.in_ok-line.ensures ∙ ap (λ (n : List ℕ). total_line (n, get_or totals index 0)) (c.as_str.ensures ∙ c.index-names-index.is) in
    let pushed : string_bytes c.push_str.new.self ≡ before ++ total_line (get_or names index name, get_or totals index 0) =
    c.in_ok-push_str.ensures.bytes ∙ ap (λ (it : List ℕ). before ++ it) (c.as_str-in-loop-index.ensures.value ∙ line) in
    let named : index < length names = search rules in
    let summed : index < length totals = search rules in
    ap (λ (it : List ℕ). it ++ others) pushed ∙ totals-next before names totals index name named summed ∙ c.loop-index.invariant

pub returns : goal.returns
returns c =
    sym (totals-end (string_bytes c.loop-index.text) c.args.names.now c.args.totals.now c.loop-index.index (search rules)) ∙ c.loop-index.invariant
