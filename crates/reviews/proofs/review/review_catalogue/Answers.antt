use Rattle.std.proofs.Common.{◌≡◌, sym, subst, arith}
use Rattle.cohorts.specs.declared.pin.Pin.TheVariants as pin
use Rattle.price_cert.specs.Tables.{Certificate}
use Rattle.reviews.proofs.PinLemmas.{tables_have_no_pin}
use Rattle.reviews.proofs.ReviewLemmas.{AreReviewed-more, AreReviews-tables}
use Rattle.reviews.proofs.review.review_catalogue.Goals as goal

pub review_table-requires-clause-pin : goal.review_table-requires-clause-pin
review_table-requires-clause-pin c =
    subst (λ (table : Certificate). table.net.key.pin ≡ pin.Any) (sym c.table-item.is)
    (tables_have_no_pin c.args.catalogue.now c.args.tables.now c.requires c.loop-table.table-index c.table-item.result (omega arith))

pub loop-table-preserved : goal.loop-table-preserved
loop-table-preserved c =
    AreReviewed-more c.args.catalogue.now c.args.tables.now c.loop-table.table-index c.loop-table.reviews.items _
    c.in_ok-review.review c.table-item.result (omega arith) c.table-item.is c.in_ok-review.ensures.key c.in_ok-review.ensures.review
    c.in_ok-push.ensures.items c.loop-table.invariant

pub returns : goal.returns
returns c =
    AreReviews-tables c.args.catalogue.now c.args.tables.now c.loop-table.table-index c.loop-table.reviews.items c.requires (omega arith)
    c.loop-table.invariant
