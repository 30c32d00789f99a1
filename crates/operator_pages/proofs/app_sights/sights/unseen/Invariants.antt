use Rattle.std.proofs.Common.{◌≡◌, map, take}
use Rattle.operator_pages.specs.AppSights.{unseen}
use Rattle.operator_pages.proofs.app_sights.sights.unseen.Given as goal

abbrev pub invariant-loop-app : goal.invariant-loop-app
invariant-loop-app l = l.sights.items ≡ map unseen (take l._app-index l.apps)
