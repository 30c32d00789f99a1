use Rattle.editions.specs.Marks.{AreEach, IsMark}
use Rattle.editions.proofs.marks.marks_of_app.Given as goal

abbrev pub invariant-loop-index : goal.invariant-loop-index
invariant-loop-index l = AreEach (IsMark l.before l.made) l.index l.marks.items
