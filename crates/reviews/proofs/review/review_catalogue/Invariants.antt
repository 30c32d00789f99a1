use Rattle.reviews.proofs.ReviewLemmas.{AreReviewed}
use Rattle.reviews.proofs.review.review_catalogue.Given as goal

abbrev pub invariant-loop-table : goal.invariant-loop-table
invariant-loop-table l = AreReviewed l.catalogue l.tables l.table-index l.reviews.items
