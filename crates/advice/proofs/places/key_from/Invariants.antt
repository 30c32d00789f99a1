use Rattle.std.proofs.Common.{◌≡◌, drop, map}
use Rattle.advice.specs.Places.{key_after}
use Rattle.advice.proofs.places.key_from.Given as goal

abbrev pub invariant-loop-index : goal.invariant-loop-index
invariant-loop-index l =
    key_after l.key l.index (map (λ line. line.now) (drop l.index l.lines))
    ≡ key_after l.key l.from (map (λ line. line.now) (drop l.from l.lines))
