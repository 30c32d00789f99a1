use Rattle.std.proofs.Common.{◌≢◌, ℕ, ◌<◌, get_or}
use Rattle.payload_graph.specs.declared.payload.TrackKey.{TrackKey}
use Rattle.replies.proofs.pinned.is_among.Given as goal

abbrev pub invariant-loop-index : goal.invariant-loop-index
invariant-loop-index l = (place : ℕ) (d : TrackKey) → place < l.index → get_or l.keys place d ≢ l.key
