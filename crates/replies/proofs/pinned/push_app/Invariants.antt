use Rattle.std.proofs.Common.{take}
use Rattle.replies.specs.Pinned.{ArePinnedKeys}
use Rattle.replies.proofs.pinned.push_app.Given as goal

abbrev pub invariant-loop-index : goal.invariant-loop-index
invariant-loop-index l =
    ArePinnedKeys l.catalogue l.request.session l.request.apps l.app (take l.index l.request.apps) l.keys.items
