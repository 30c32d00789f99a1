use Rattle.std.proofs.Common.{rules, ◌≡◌, ◌++◌, ◌+◌, ◌<◌, ◌∙◌, ap, drop, flat_map, get_or, length, string_bytes, sym, ℕ, List}
use Rattle.std.specs.List.{zip}
use Rattle.tallies.specs.declared.codes.TheConstants.{CODES}
use Rattle.operator_pages.specs.Traffic.{code_sample}
use Rattle.operator_pages.proofs.ZipLemmas.{zip-end, zip-next}
use Rattle.operator_pages.proofs.traffic.push_codes.Goals as goal

pub loop-index-preserved : goal.loop-index-preserved
loop-index-preserved c =
    let codes = CODES in
    let replies = c.args.replies.now in
    let index = c.loop-index.index in
    let line = code_sample in
    let before = string_bytes c.loop-index.text in
    let others = flat_map line (drop (index + 1) (zip codes replies)) in
    let left : index < length codes = search rules in
    let right : index < length replies = search rules in
    let pushed : string_bytes c.push_code.new.text ≡ before ++ line (get_or codes index 0, get_or replies index 0) =
    c.in_ok-push_code.ensures
    in
    ap (λ (it : List ℕ). it ++ others) pushed ∙ zip-next line before codes replies index 0 0 left right ∙ c.loop-index.invariant

pub returns : goal.returns
returns c =
    sym (zip-end (code_sample) (string_bytes c.loop-index.text) CODES c.args.replies.now c.loop-index.index (search rules)) ∙ c.loop-index.invariant
