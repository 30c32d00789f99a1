use Rattle.std.proofs.Common.{◌≡◌, ◌-◌, ◌≤◌, ◌+◌, ◌∙◌, List, ap, arith, length, min, take, ℕ}
use Rattle.std.proofs.lemmas.List.{take_all, take_min}
use Rattle.tallies.specs.Statuses.{written}
use Rattle.tallies.proofs.StatusLemmas.{written-take}
use Rattle.tallies.proofs.sight.StatusSight.after.Goals as goal

-- all of the first bytes were seen, and the others change nothing
pub returns : goal.returns
returns c =
    let sight = c.args.self in
    let bytes = c.args.bytes.now in
    let most = 12 - sight.count in
    let first = take c.min.result bytes in
    let is_most : c.min.result ≡ min most (length bytes) = omega arith in
    let is_first : first ≡ take most bytes = ap (λ (n : ℕ). take n bytes) is_most ∙ take_min most bytes in
    let is_all : take c.loop-byte.byte-index first ≡ first = take_all c.loop-byte.byte-index first c.loop-byte-test.false in
    let enough : 12 ≤ sight.count + most = omega arith in
    c.loop-byte.invariant ∙ ap (λ (it : List ℕ). written sight it) (is_all ∙ is_first) ∙ written-take most sight bytes enough
