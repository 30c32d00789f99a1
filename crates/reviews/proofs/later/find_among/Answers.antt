use Rattle.std.proofs.Common.{length, refl}
use Rattle.std.proofs.lemmas.Option.{slice_get_read}
use Rattle.reviews.proofs.later.find_among.Goals as goal

pub returns-then-is_of : goal.returns-then-is_of
returns-then-is_of c =
    let reviews = c.args.reviews.now in (
      slice_get_read reviews (length reviews) c.loop-index.index c.index-reviews-index.result refl c.loop-index-test.true c.index-reviews-index.is,
      c.is_of.ensures c.if-is_of.true,
    )
