use Rattle.par_tables.proofs.KeptLemmas.{kept_table, no_kept_table, IsSome-match}
use Rattle.par_tables.proofs.keeping.find_kept.Goals as goal

pub unwrap-requires : goal.unwrap-requires
unwrap-requires c =
    IsSome-match c.find.result _ _ c.find.ensures
    (no_kept_table c.tracks.ensures.tracks c.args.before.now c.args.made.now c.args.tables.now c.args.key.now c.requires.tables c.requires.same c.requires.track)

pub returns : goal.returns
returns c =
    let found = rw c.unwrap.ensures at c.find.ensures in
    kept_table c.tracks.ensures.tables c.args.before.now c.args.made.now c.args.tables.now c.args.key.now c.unwrap.result.now c.requires.tables c.requires.same found.0 found.1
