use Rattle.std.proofs.Common.{◌≡◌, ◌++◌, length, map}
use Rattle.std.specs.Prelude.{replicate}
use Rattle.tallies.proofs.tally.push_more.Given as goal

abbrev pub invariant-loop-app : goal.invariant-loop-app
invariant-loop-app l =
    map (λ app. length app.items) l.apps.items ≡ map (λ app. length app.items) l.initial.apps.items ++ replicate l._app 16
