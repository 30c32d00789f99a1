use Rattle.std.proofs.Common.{[]}
use Rattle.replies.specs.Pinned.{ArePinnedKeys}
use Rattle.replies.proofs.pinned.pinned_keys.Given as goal

abbrev pub invariant-loop-app : goal.invariant-loop-app
invariant-loop-app l = ArePinnedKeys l.catalogue l.request.session l.request.apps l.app [] l.keys.items
