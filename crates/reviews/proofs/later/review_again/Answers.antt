use Rattle.std.proofs.Common.{arith}
use Rattle.std.proofs.lemmas.Grind.{common_steps}
use Rattle.reviews.proofs.later.review_again.Goals as goal

pub returns-in_ok-review_table-in-None-clause-review : goal.returns-in_ok-review_table-in-None-clause-review
returns-in_ok-review_table-in-None-clause-review c = grind (arith, common_steps)

pub returns-in_ok-review_table-in-None-clause-source : goal.returns-in_ok-review_table-in-None-clause-source
returns-in_ok-review_table-in-None-clause-source c = grind (arith, common_steps)
