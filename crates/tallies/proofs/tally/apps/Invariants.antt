use Rattle.std.proofs.Common.{◌≡◌, length, map, take}
use Rattle.tallies.specs.Rooms.{with_more}
use Rattle.tallies.proofs.tally.apps.Given as goal

abbrev pub invariant-loop-of_app : goal.invariant-loop-of_app
invariant-loop-of_app l = map (λ app. length app.items) l.apps.items ≡ map with_more (take l.of_app-index l.many)
