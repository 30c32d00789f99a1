use Rattle.std.proofs.Common.{◌≡◌, ◌++◌, string_bytes, take}
use Rattle.operator_pages.specs.Sights.{stuck_rows}
use Rattle.operator_pages.proofs.sights.push_stuck_rows.Given as goal

abbrev pub invariant-loop-one : goal.invariant-loop-one
invariant-loop-one l = string_bytes l.text ≡ string_bytes l.initial.text ++ stuck_rows (take l.one-index l.stuck)
