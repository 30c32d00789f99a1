use Rattle.std.proofs.Common.{◌≡◌, take}
use Rattle.par_tables.specs.Tracks.{app_keys, joined_from}
use Rattle.par_tables.proofs.tracks.all_keys.Given as goal

abbrev pub invariant-loop-app : goal.invariant-loop-app
invariant-loop-app l = l.keys.items ≡ joined_from app_keys 0 (take l.app l.catalogue)
