use Rattle.std.proofs.Common.{length}
use Rattle.par_tables.proofs.PlacingLemmas.{IsPartial}
use Rattle.par_tables.proofs.places.push_app.Given as goal

abbrev pub invariant-loop-index : goal.invariant-loop-index
invariant-loop-index l =
    IsPartial l.catalogue l.app (length l.fn.places.starts.items) l.index l.cohorts l.places.firsts.items l.places.starts.items l.places.count
