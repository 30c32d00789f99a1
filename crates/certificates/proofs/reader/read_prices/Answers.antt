use Rattle.std.proofs.Common.{length, sym, ap, ◌∙◌}
use Rattle.payload_graph.specs.declared.payload.TrackKey.{TrackKey}
use Rattle.payload_graph.specs.Net.{net_among}
use Rattle.certificates.specs.Headings.{headings}
use Rattle.certificates.specs.Reading.{read_headings}
use Rattle.certificates.proofs.LengthLemmas.{length-rows_after}
use Rattle.certificates.proofs.TrackLemmas.{length-doors-track}
use Rattle.certificates.proofs.reader.read_prices.Goals as goal

pub returns-clause-sized : goal.returns-clause-sized
returns-clause-sized c =
    let apps = c.args.catalogue.now in
    let app = c.in-Some.app.now in
    let made = ap (λ (key : TrackKey). net_among apps key) c.key-key.ensures ∙ c.requires.graph in
    let doors = length-doors-track apps c.key-key.result c.args.graph.now app c.in-Some.cohort.now (sym c.in-Some.ensures.track) made in
    let rows =
    length-rows_after app.releases
    (read_headings app c.in-Some.cohort.now c.key-key.result c.in-Some-get.target.now headings 1 c.args.text.now)
    c.in_ok-body.body c.in_ok-body.ensures in
    ap length (c.in_ok-rows.ensures ∙ c.into_vec.ensures) ∙ rows ∙ sym doors
