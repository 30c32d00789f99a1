use Rattle.std.proofs.Common.{refl, arith}
use Rattle.par_tables.proofs.PieceLemmas.{Adds-pieces}
use Rattle.par_tables.proofs.building.build_tracks.Goals as goal

pub returns : goal.returns
returns g c =
    let some = c.requires.workers in
    Adds-pieces c.args.catalogue.now c.args.listed.now c.args.workers c.args.workers c.in_ok-tables.tables.items
    (omega arith) refl c.in_ok-tables.ensures
