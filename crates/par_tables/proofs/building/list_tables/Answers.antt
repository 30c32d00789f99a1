use Rattle.std.proofs.Common.{◌∙◌}
use Rattle.par_tables.proofs.TargetLemmas.{AreTables-tracks}
use Rattle.par_tables.proofs.building.list_tables.Goals as goal

pub returns : goal.returns
returns c =
    AreTables-tracks c.args.catalogue.now c.as_slice.result.now c.in_ok-tables.tables.items
    (c.as_slice.ensures.value ∙ c.in_ok-keys.ensures.value) c.in_ok-tables.ensures
