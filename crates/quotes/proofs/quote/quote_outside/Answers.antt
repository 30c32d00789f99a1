use Rattle.std.proofs.Common.{arith}
use Rattle.quotes.proofs.AmongLemmas.{length-rows_among}
use Rattle.quotes.proofs.OutsideAmongLemmas.{quote-outside, releases_ascend_among, sizes_among}
use Rattle.quotes.proofs.quote.quote_outside.Goals as goal

pub find_best-requires-clause-sized : goal.find_best-requires-clause-sized
find_best-requires-clause-sized c =
    rw (c.rows.ensures.rows, c.releases-releases.ensures)
    (length-rows_among c.order.ensures.irreflexive c.fulls.ensures c.differs.ensures c.args.catalogue.now c.args.key.now
    c.args.table.now.net c.args.table.now.rows c.validity.ensures c.requires.table c.rows.ensures.certified c.rows.ensures.least)

pub find_best-requires-clause-ascending : goal.find_best-requires-clause-ascending
find_best-requires-clause-ascending c =
    rw c.releases-releases.ensures
    (releases_ascend_among c.order.ensures.irreflexive c.fulls.ensures c.differs.ensures c.args.catalogue.now c.args.key.now c.args.table.now.net c.validity.ensures c.requires.table)

pub find_best-requires-clause-sizes : goal.find_best-requires-clause-sizes
find_best-requires-clause-sizes c =
    rw c.releases-releases.ensures
    (sizes_among c.order.ensures.irreflexive c.fulls.ensures c.differs.ensures c.args.catalogue.now c.args.key.now c.args.table.now.net c.validity.ensures c.requires.table)

pub find_best-requires-clause-prices : goal.find_best-requires-clause-prices
find_best-requires-clause-prices c =
    rw c.rows.ensures.rows
    (λ from within. c.rows.ensures.small from (let same = c.rows.ensures.certified.sized in omega arith))

pub returns : goal.returns
returns c =
    let best = rw (c.releases-releases.ensures, c.rows.ensures.rows, c.in-Some-find_visitor.ensures.version) at c.find_best.ensures in
    rw c.best_quote.ensures
    (quote-outside c.order.ensures.irreflexive c.fulls.ensures c.differs.ensures c.args.catalogue.now c.args.key.now
    c.args.table.now.net c.validity.ensures c.requires.table c.args.table.now.rows c.rows.ensures.least c.args.version
    c.in-Some-find_visitor.visitor.cohort.now c.in-Some-find_visitor.visitor.key.now c.in-Some-find_visitor.visitor.target c.find_best.result
    c.in-Some-find_visitor.ensures.cohort c.in-Some-find_visitor.ensures.key c.in-Some-find_visitor.ensures.target best)
