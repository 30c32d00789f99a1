use Rattle.std.proofs.Common.{take}
use Rattle.std.specs.List.{AllZip}
use Rattle.editions.specs.Editions.{content_of}
use Rattle.replies.specs.Plans.{IsChosen}
use Rattle.replies.proofs.planning.choose_each.Given as goal

abbrev pub invariant-loop-index : goal.invariant-loop-index
invariant-loop-index l =
    AllZip (IsChosen (content_of l.edition) l.request.session) (take l.index l.request.apps) l.choices.items
