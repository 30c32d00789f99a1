use Rattle.std.proofs.Common.{◌≡◌, ◌++◌}
use Rattle.std.specs.List.{flat_map}
use Rattle.profile_toml.specs.Diffs.{diff_edits}
use Rattle.profile_toml.proofs.app.push_diffs.Given as goal

abbrev pub invariant-loop-diff : goal.invariant-loop-diff
invariant-loop-diff l = l.edits ≡ l.initial.edits ++ flat_map (diff_edits l.app) l.yielded
