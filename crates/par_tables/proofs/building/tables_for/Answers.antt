use Rattle.std.proofs.Common.{◌∙◌}
use Rattle.par_tables.proofs.TargetLemmas.{AreTablesFor-tracks}
use Rattle.par_tables.proofs.building.tables_for.Goals as goal

pub returns : goal.returns
returns c =
    AreTablesFor-tracks c.args.catalogue.now c.args.marks.now c.as_slice.result.now c.in_ok-tables.tables.items
    (c.as_slice.ensures.value ∙ c.in_ok-keys.ensures.value) c.in_ok-tables.ensures
