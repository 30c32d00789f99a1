use Rattle.std.proofs.Common.{arith}
use Rattle.std.proofs.lemmas.Grind.{common_steps}
use Rattle.reviews.proofs.roads.Roads.flags.Goals as goal

pub flag_above-requires-clause-below : goal.flag_above-requires-clause-below
flag_above-requires-clause-below c = grind (arith, common_steps)

pub returns-clause-sized : goal.returns-clause-sized
returns-clause-sized c = grind (arith, common_steps)

pub returns-clause-routed : goal.returns-clause-routed
returns-clause-routed c = grind (arith, common_steps)
