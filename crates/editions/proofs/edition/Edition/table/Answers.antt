use Rattle.std.proofs.Common.{map, sym, ap, ◌∙◌}
use Rattle.std.specs.Arc.{arc_value}
use Rattle.editions.specs.Editions.{content_of}
use Rattle.editions.proofs.TableLemmas.{content_of-led, net_among-found, net_among-missing}
use Rattle.editions.proofs.edition.Edition.table.Goals as goal

pub returns-in-Some-clause-table : goal.returns-in-Some-clause-table
returns-in-Some-clause-table c =
    let content = ap content_of (sym c.self.view_is) ∙ content_of-led (map arc_value c.self.inside.batches.items) c.self.inside.catalogue c.self.invariant.led in
    let found = rw c.in-Some.is at c.find.ensures in
    rw content
    (sym (net_among-found c.tracks.ensures.tables c.self.inside.catalogue c.self.inside.tables c.args.key.now c.in-Some.table.now c.self.invariant.priced found.0 found.1))

pub returns-in-None-clause-table : goal.returns-in-None-clause-table
returns-in-None-clause-table c =
    let content = ap content_of (sym c.self.view_is) ∙ content_of-led (map arc_value c.self.inside.batches.items) c.self.inside.catalogue c.self.invariant.led in
    let others = rw c.in-None.is at c.find.ensures in
    let listed = rw content at c.requires in
    rw content
    (sym (net_among-missing c.tracks.ensures.tracks c.self.inside.catalogue c.self.inside.tables c.args.key.now c.self.invariant.priced listed others))
