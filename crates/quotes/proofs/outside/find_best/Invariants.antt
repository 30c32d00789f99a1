use Rattle.std.proofs.Common.{◌≤◌, length}
use Rattle.quotes.proofs.OutsideLemmas.{HasLooked}
use Rattle.quotes.proofs.outside.find_best.Given as goal

abbrev pub invariant-loop-to : goal.invariant-loop-to
invariant-loop-to l =
    HasLooked l.releases l.visitor.cohort.now l.visitor.key.now l.visitor.target l.visitor.version l.rows l.to l.best l.blocked
    × (l.to ≤ length l.releases)
