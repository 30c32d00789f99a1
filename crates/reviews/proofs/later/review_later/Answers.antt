use Rattle.std.proofs.Common.{◌≡◌, ℕ, ◌+◌, ◌++◌, List, [], ◌∷◌, length, Option, sym, ap, ◌∙◌, subst, arith}
use Rattle.std.proofs.lemmas.List.{length_push}
use Rattle.cohorts.specs.declared.pin.Pin.TheVariants as pin
use Rattle.price_cert.specs.Tables.{Certificate}
use Rattle.reviews.specs.Copies.{HaveSources}
use Rattle.reviews.specs.declared.review.TrackReview.{TrackReview}
use Rattle.reviews.proofs.CopyLemmas.{HaveSources-more}
use Rattle.reviews.proofs.PinLemmas.{tables_have_no_pin}
use Rattle.reviews.proofs.ReviewLemmas.{AreReviewed-more, AreReviews-tables}
use Rattle.reviews.proofs.later.review_later.Goals as goal

pub review_again-requires-clause-pin : goal.review_again-requires-clause-pin
review_again-requires-clause-pin c =
    subst (λ (table : Certificate). table.net.key.pin ≡ pin.Any) (sym c.index-tables-index.is)
    (tables_have_no_pin c.args.catalogue.now c.args.tables.now c.requires.tables c.loop-index.index c.index-tables-index.result (omega arith))

pub loop-index-preserved : goal.loop-index-preserved
loop-index-preserved c =
    let before = c.args.before.now.catalogue.now in
    let after = c.args.catalogue.now in
    let olds = c.args.before.now.tracks.now in
    let old = c.loop-index.later in
    let new = c.push_review.new.later in
    let made = c.in_ok-made.made in
    let kept = c.loop-index.invariant in
    let pushed = c.in_ok-push_review.ensures in
    record {
      reviewed =
          AreReviewed-more after c.args.tables.now c.loop-index.index old.tracks.items new.tracks.items made.review c.index-tables-index.result
          (omega arith) c.index-tables-index.is c.in_ok-made.ensures.key c.in_ok-made.ensures.review pushed.tracks kept.reviewed;
      sources =
          subst (λ (news : List TrackReview). HaveSources before after olds news new.sources.items) (sym pushed.tracks)
          (subst (HaveSources before after olds (old.tracks.items ++ made.review ∷ [])) (sym pushed.sources)
          (HaveSources-more before after olds old.tracks.items old.sources.items made.review made.source kept.sized kept.sources
          c.in_ok-made.ensures.source));
      sized =
          ap (λ (xs : List (Option ℕ)). length xs) pushed.sources ∙ length_push old.sources.items made.source
          ∙ ap (λ n. n + 1) kept.sized ∙ sym (length_push old.tracks.items made.review)
          ∙ sym (ap (λ (xs : List TrackReview). length xs) pushed.tracks);
    }

pub returns-clause-reviews : goal.returns-clause-reviews
returns-clause-reviews c =
    AreReviews-tables c.args.catalogue.now c.args.tables.now c.loop-index.index c.loop-index.later.tracks.items c.requires.tables (omega arith)
    c.loop-index.invariant.reviewed
