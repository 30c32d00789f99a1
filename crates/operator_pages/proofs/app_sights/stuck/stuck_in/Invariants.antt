use Rattle.std.proofs.Common.{◌≡◌, take}
use Rattle.operator_pages.specs.Clients.{stuck_in}
use Rattle.operator_pages.proofs.app_sights.stuck.stuck_in.Given as goal

abbrev pub invariant-loop-review : goal.invariant-loop-review
invariant-loop-review l = l.stuck.items ≡ stuck_in l.app (take l.review-index l.reviews)
