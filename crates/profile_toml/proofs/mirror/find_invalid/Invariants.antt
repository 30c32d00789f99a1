use Rattle.std.proofs.Common.{◌≡◌, [], take, drop}
use Rattle.profile_toml.specs.Mirrors.{first_invalid_after}
use Rattle.profile_toml.proofs.mirror.find_invalid.Given as goal

abbrev pub invariant-loop-index : goal.invariant-loop-index
invariant-loop-index l =
    first_invalid_after (take l.index l.mirrors) (drop l.index l.mirrors) ≡ first_invalid_after [] l.mirrors
