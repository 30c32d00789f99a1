use Rattle.std.proofs.Common.{arith}
use Rattle.std.proofs.lemmas.Grind.{common_steps}
use Rattle.reviews.proofs.review.review_subject.Goals as goal

pub all_steps-requires : goal.all_steps-requires
all_steps-requires c = grind (arith, common_steps)

pub returns-clause-review : goal.returns-clause-review
returns-clause-review c = grind (arith, common_steps)
