use Rattle.std.proofs.Common.{List, ℕ, map}
use Rattle.catalogue.proofs.ReadingLemmas.{HasRead}
use Rattle.catalogue.proofs.spelling.read.Given as goal

abbrev pub invariant-loop-part : goal.invariant-loop-part
invariant-loop-part l =
    (numbers : List ℕ) ×
    HasRead l.form (map (λ part. part.now) l.yielded) l.components l.count numbers
