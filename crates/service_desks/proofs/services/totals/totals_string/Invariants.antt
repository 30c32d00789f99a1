-- The lines so far and those that are left are the whole.
use Rattle.std.proofs.Common.{◌≡◌, ◌++◌, drop, flat_map, string_bytes}
use Rattle.std.specs.List.{zip}
use Rattle.service_desks.specs.Totals.{total_line, totals_string}
use Rattle.service_desks.proofs.services.totals.totals_string.Given as goal

abbrev pub invariant-loop-index : goal.invariant-loop-index
invariant-loop-index l =
    string_bytes l.text ++ flat_map total_line (drop l.index (zip l.names l.totals)) ≡ totals_string l.names l.totals
