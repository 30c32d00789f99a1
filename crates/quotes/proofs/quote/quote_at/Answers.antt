use Rattle.std.proofs.Common.{List, length, subst, sym, ap, ◌∙◌, arith}
use Rattle.catalogue.specs.Lookups.{diffs_at, releases_at}
use Rattle.payload_graph.specs.declared.place.Place.TheVariants.{At}
use Rattle.price_cert.specs.Rows.{row_at}
use Rattle.price_cert.specs.declared.row.Row.{Row}
use Rattle.quotes.specs.Quotes.{IsQuoteAmong, row_quote}
use Rattle.quotes.specs.declared.quote.Quote.{Quote}
use Rattle.quotes.proofs.AmongLemmas.{length-rows_among, quote-among}
use Rattle.quotes.proofs.quote.quote_at.Goals as goal

pub bounds-rows-release : goal.bounds-rows-release
bounds-rows-release c =
    let sized =
    length-rows_among c.order.ensures.irreflexive c.fulls.ensures c.differs.ensures c.args.catalogue.now c.args.key.now
    c.args.table.now.net c.args.table.now.rows c.validity.ensures c.requires.table c.rows.ensures.certified c.rows.ensures.least in
    let same = ap length c.rows.ensures.rows in
    let within = c.requires.release in
    omega arith

pub returns : goal.returns
returns c =
    let quote =
    quote-among c.order.ensures.irreflexive c.fulls.ensures c.differs.ensures c.args.catalogue.now c.args.key.now
    c.args.table.now.net c.args.table.now.rows c.validity.ensures c.requires.table c.rows.ensures.certified c.rows.ensures.least
    c.args.release c.requires.release in
    let apps = c.args.catalogue.now in
    let app = c.args.key.now.app in
    let row = ap (λ (rows : List Row). row_quote (releases_at apps app) (diffs_at apps app) c.args.release (row_at rows c.args.release)) c.rows.ensures.rows in
    let said = c.row_quote.ensures ∙ row in
    subst (λ (quote : Quote). IsQuoteAmong apps c.args.key.now (At c.args.release) quote) (sym said) quote
