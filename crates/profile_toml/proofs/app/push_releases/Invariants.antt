use Rattle.std.proofs.Common.{◌≡◌, ◌++◌}
use Rattle.std.specs.List.{flat_map}
use Rattle.profile_toml.specs.Releases.{release_edits}
use Rattle.profile_toml.proofs.app.push_releases.Given as goal

abbrev pub invariant-loop-release : goal.invariant-loop-release
invariant-loop-release l = l.edits ≡ l.initial.edits ++ flat_map (release_edits l.app) l.yielded
