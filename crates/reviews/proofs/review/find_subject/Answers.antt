use Rattle.std.proofs.Common.{arith}
use Rattle.std.proofs.lemmas.Grind.{common_steps}
use Rattle.reviews.proofs.review.find_subject.Goals as goal

pub index_of_release-requires : goal.index_of_release-requires
index_of_release-requires c = grind (arith, common_steps)
