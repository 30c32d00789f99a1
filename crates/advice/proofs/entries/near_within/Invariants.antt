use Rattle.std.proofs.Common.{◌≡◌, drop, map}
use Rattle.advice.specs.Entries.{near_within}
use Rattle.advice.proofs.entries.near_within.Given as goal

abbrev pub invariant-loop-word : goal.invariant-loop-word
invariant-loop-word l =
    near_within l.limit l.key (map (λ word. word.now) l.words)
    ≡ near_within l.limit l.key (map (λ word. word.now) (drop l.word-index l.words))
