use Rattle.std.proofs.Common.{sym, ◌∙◌}
use Rattle.catalogue.specs.Lookups.{releases_at}
use Rattle.quotes.proofs.SameVersionLemmas.{HasVersion-position, quote-outside_among}
use Rattle.quotes.proofs.quote.quote_by_row.Goals as goal

pub returns : goal.returns
returns c =
    let apps = c.args.catalogue.now in
    let key = c.args.key.now in
    let version = c.args.version.now in
    let from = c.in_ok-release.release in
    let has = HasVersion-position (releases_at apps key.app) from version (sym c.find_release.ensures ∙ c.in_ok-release.was) in
    rw c.without_differentials.ensures
    (quote-outside_among c.order.ensures.irreflexive apps key c.args.table.now.net c.validity.ensures c.requires.table from
    version has c.quote_at-quote.result c.quote_at-quote.ensures)
