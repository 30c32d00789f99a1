-- The names so far are those of the first mirrors.
use Rattle.std.proofs.Common.{◌≡◌, take}
use Rattle.service_desks.specs.Totals.{names_of}
use Rattle.service_desks.proofs.services.totals.names_of.Given as goal

abbrev pub invariant-loop-mirror : goal.invariant-loop-mirror
invariant-loop-mirror l = l.names ≡ names_of (take l.mirror-index l.mirrors)
