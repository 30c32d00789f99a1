use Rattle.std.proofs.Common.{◌≡◌, false, sym, ap, ◌∙◌}
use Rattle.std.specs.List.{list_any}
use Rattle.reviews.specs.Reviews.{is_unpriced}
use Rattle.reviews.proofs.ReviewLemmas.{Explains-priced, net_in-there}
use Rattle.reviews.proofs.review.find_reasons.Goals as goal

pub returns-then-not-has_unpriced : goal.returns-then-not-has_unpriced
returns-then-not-has_unpriced c =
    let subject = c.args.subject.now in
    let table = c.args.table.now in
    let none : list_any is_unpriced table.rows ≡ false =
    sym (ap (list_any is_unpriced) c.rows-rows.ensures.rows) ∙ sym c.has_unpriced.ensures ∙ c.if-not-has_unpriced.true in
    Explains-priced c.least.ensures subject.app.now subject.key.now subject.cohort.now subject.target table.net table.rows c.new.result.items
    c.requires.track (net_in-there c.args.catalogue.now subject.app.now subject.key.now table.net c.requires.there c.requires.table)
    c.rows-rows.ensures.certified c.rows-rows.ensures.least none
