use Rattle.std.proofs.Common.{◌≡◌, length}
use Rattle.reviews.specs.Copies.{HaveSources}
use Rattle.reviews.proofs.ReviewLemmas.{AreReviewed}
use Rattle.reviews.proofs.later.review_later.Given as goal

abbrev pub invariant-loop-index : goal.invariant-loop-index
invariant-loop-index l = record {
  reviewed : AreReviewed l.catalogue l.tables l.index l.later.tracks.items;
  sources : HaveSources l.before.catalogue.now l.catalogue l.before.tracks.now l.later.tracks.items l.later.sources.items;
  sized : length l.later.sources.items ≡ length l.later.tracks.items;
}
