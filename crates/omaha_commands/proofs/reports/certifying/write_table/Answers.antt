use Rattle.std.proofs.Common.{◌≡◌, ap, ◌∙◌}
use Rattle.payload_graph.specs.declared.payload.TrackKey.{TrackKey}
use Rattle.price_cert.specs.Tables.{Certificate}
use Rattle.omaha_commands.proofs.TextLemmas.{text-there}
use Rattle.omaha_commands.proofs.reports.certifying.write_table.Goals as goal

pub write_prices-requires-clause-there : goal.write_prices-requires-clause-there
write_prices-requires-clause-there c =
    text-there c.args.catalogue.now c.args.key.now c.args.table.now.net c.into_prices-prices.result c.requires.net
    (c.into_prices-prices.ensures.key ∙ ap (λ (table : Certificate). table.net.key) c.in_ok-copy.ensures)

pub write_prices-requires-clause-pin : goal.write_prices-requires-clause-pin
write_prices-requires-clause-pin c =
    ap (λ (key : TrackKey). key.pin)
    (c.into_prices-prices.ensures.key ∙ ap (λ (table : Certificate). table.net.key) c.in_ok-copy.ensures)
    ∙ c.requires.pin
