use Rattle.std.proofs.Common.{rules}
use Rattle.cohorts.proofs.track.track_in.Goals as goal

pub returns : goal.returns
returns c = search rules
