use Rattle.std.proofs.Common.{◌≡◌}
use Rattle.profile_toml.specs.Apps.{edits_of}
use Rattle.profile_toml.proofs.app.edits_of.Given as goal

abbrev pub invariant-loop-app : goal.invariant-loop-app
invariant-loop-app l = l.edits ≡ edits_of l.yielded
