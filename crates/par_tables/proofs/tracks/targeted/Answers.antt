use Rattle.std.proofs.Common.{sym, subst}
use Rattle.std.specs.List.{All}
use Rattle.par_tables.specs.Pieces.{HasTarget}
use Rattle.par_tables.proofs.TargetLemmas.{All-targeted}
use Rattle.par_tables.proofs.tracks.targeted.Goals as goal

pub returns-clause-targets : goal.returns-clause-targets
returns-clause-targets c =
    subst (All (HasTarget c.args.catalogue.now)) (sym c.loop-key.invariant) (All-targeted c.args.catalogue.now _)
