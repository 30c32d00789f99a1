use Rattle.std.proofs.Common.{rules, ◌≡◌, ◌++◌, ◌+◌, ◌<◌, ◌∙◌, ap, drop, flat_map, get_or, length, string_bytes, sym, ℕ, List}
use Rattle.std.specs.List.{zip}
use Rattle.catalogue.specs.declared.mirror.Mirror.{Mirror}
use Rattle.tallies.specs.declared.totals.MirrorTotals.{MirrorTotals}
use Rattle.operator_pages.specs.Traffic.{offered_of_mirror}
use Rattle.operator_pages.proofs.ZipLemmas.{zip-end, zip-next}
use Rattle.operator_pages.proofs.traffic.push_mirrors.Goals as goal

pub loop-index-preserved : goal.loop-index-preserved
loop-index-preserved c =
    let mirrors = c.args.mirrors.now in
    let bytes = c.args.bytes.now in
    let index = c.loop-index.index in
    let line = offered_of_mirror in
    let before = string_bytes c.loop-index.text in
    let others = flat_map line (drop (index + 1) (zip mirrors bytes)) in
    let mirror = c.index-mirrors-index.result in
    let none : MirrorTotals = record { full = 0; differential = 0 } in
    let left : index < length mirrors = search rules in
    let right : index < length bytes = search rules in
    let pushed : string_bytes c.push_mirror.new.text ≡ before ++ line (get_or mirrors index mirror, get_or bytes index none) =
    c.in_ok-push_mirror.ensures ∙ ap (λ (it : Mirror). before ++ line (it, get_or bytes index none)) c.index-mirrors-index.is
    in
    ap (λ (it : List ℕ). it ++ others) pushed ∙ zip-next line before mirrors bytes index mirror none left right ∙ c.loop-index.invariant

pub returns : goal.returns
returns c =
    sym (zip-end (offered_of_mirror) (string_bytes c.loop-index.text) c.args.mirrors.now c.args.bytes.now c.loop-index.index (search rules)) ∙ c.loop-index.invariant
