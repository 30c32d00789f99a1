use Rattle.std.proofs.Common.{◌≡◌, map, take}
use Rattle.operator_pages.specs.Clients.{said_of}
use Rattle.operator_pages.proofs.app_sights.stuck.all_said.Given as goal

abbrev pub invariant-loop-one : goal.invariant-loop-one
invariant-loop-one l = l.said.items ≡ map (said_of l.app) (take l.one-index l.stuck)
