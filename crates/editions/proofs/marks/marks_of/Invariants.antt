use Rattle.editions.specs.Marks.{AreEach, AreMarksOf}
use Rattle.editions.proofs.marks.marks_of.Given as goal

abbrev pub invariant-loop-index : goal.invariant-loop-index
invariant-loop-index l = AreEach (AreMarksOf l.before l.batch l.made) l.index l.marks.items
