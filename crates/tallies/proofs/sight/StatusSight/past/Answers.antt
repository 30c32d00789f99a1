use Rattle.std.proofs.Common.{◌≡◌, ◌-◌, ◌≤◌, ◌∙◌, List, ap, arith, drop, length, take, ℕ}
use Rattle.tallies.specs.Statuses.{written}
use Rattle.tallies.proofs.StatusLemmas.{skipped, take-rest, written-skipped}
use Rattle.tallies.proofs.sight.StatusSight.past.Goals as goal

-- the bytes that are skipped only count
pub returns : goal.returns
returns c =
    let sight = c.args.self in
    let bytes = c.args.bytes.now in
    let n = c.min-skipped.result in
    let there : n ≤ length bytes = omega arith in
    let few : n ≤ 9 - sight.count = omega arith in
    let rest : take (length bytes - n) (drop n bytes) ≡ drop n bytes = take-rest n bytes in
    c.after.ensures ∙ ap (λ (it : List ℕ). written (skipped sight n) it) rest ∙ written-skipped n sight bytes there few
