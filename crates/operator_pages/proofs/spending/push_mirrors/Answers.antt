use Rattle.std.proofs.Common.{rules, ◌≡◌, ◌++◌, ◌+◌, ◌<◌, ◌∙◌, ap, drop, flat_map, get_or, length, string_bytes, sym, ℕ, List}
use Rattle.std.specs.List.{zip}
use Rattle.catalogue.specs.declared.mirror.Mirror.{Mirror}
use Rattle.operator_pages.specs.Spending.{mirror_line}
use Rattle.operator_pages.proofs.ZipLemmas.{zip-end, zip-next}
use Rattle.operator_pages.proofs.spending.push_mirrors.Goals as goal

pub loop-index-preserved : goal.loop-index-preserved
loop-index-preserved c =
    let mirrors = c.args.mirrors.now in
    let granted = c.args.granted.now in
    let index = c.loop-index.index in
    let line = mirror_line c.args.place in
    let before = string_bytes c.loop-index.text in
    let others = flat_map line (drop (index + 1) (zip mirrors granted)) in
    let mirror = c.index-mirrors-index.result in
    let left : index < length mirrors = search rules in
    let right : index < length granted = search rules in
    let pushed : string_bytes c.push_mirror.new.text ≡ before ++ line (get_or mirrors index mirror, get_or granted index 0) =
    c.in_ok-push_mirror.ensures ∙ ap (λ (it : Mirror). before ++ line (it, get_or granted index 0)) c.index-mirrors-index.is
    in
    ap (λ (it : List ℕ). it ++ others) pushed ∙ zip-next line before mirrors granted index mirror 0 left right ∙ c.loop-index.invariant

pub returns : goal.returns
returns c =
    sym (zip-end (mirror_line c.args.place) (string_bytes c.loop-index.text) c.args.mirrors.now c.args.granted.now c.loop-index.index (search rules)) ∙ c.loop-index.invariant
