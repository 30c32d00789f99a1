use Rattle.std.proofs.Common.{◌≡◌, ◌*◌, ◌≤◌, take}
use Rattle.operator_pages.specs.AppSights.{weight}
use Rattle.operator_pages.proofs.app_sights.limits.weight.Given as goal

abbrev pub invariant-loop-app : goal.invariant-loop-app
invariant-loop-app l = record {
  is : l.total ≡ weight (take l.app-index l.apps);
  few : l.total ≤ l.app-index * 18446744073709551616;
}
