-- The lines so far and those that are left are the whole.
use Rattle.std.proofs.Common.{◌≡◌, ◌++◌, drop, flat_map, string_bytes}
use Rattle.std.specs.List.{zip}
use Rattle.operator_pages.specs.Traffic.{checks_of_app}
use Rattle.operator_pages.proofs.traffic.push_check_samples.Given as goal

abbrev pub invariant-loop-index : goal.invariant-loop-index
invariant-loop-index l =
    string_bytes l.text ++ flat_map checks_of_app (drop l.index (zip l.apps l.checks))
    ≡ string_bytes l.initial.text ++ flat_map checks_of_app (zip l.apps l.checks)
