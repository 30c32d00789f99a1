use Rattle.std.proofs.Common.{◌≡◌, drop, map}
use Rattle.advice.specs.Places.{header_after}
use Rattle.advice.proofs.places.header_from.Given as goal

abbrev pub invariant-loop-index : goal.invariant-loop-index
invariant-loop-index l =
    header_after l.header l.index l.left (map (λ line. line.now) (drop l.index l.lines))
    ≡ header_after l.header l.from l.skipped (map (λ line. line.now) (drop l.from l.lines))
