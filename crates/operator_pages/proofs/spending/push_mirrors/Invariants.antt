-- The lines so far and those that are left are the whole.
use Rattle.std.proofs.Common.{◌≡◌, ◌++◌, drop, flat_map, string_bytes}
use Rattle.std.specs.List.{zip}
use Rattle.operator_pages.specs.Spending.{mirror_line, mirror_lines}
use Rattle.operator_pages.proofs.spending.push_mirrors.Given as goal

abbrev pub invariant-loop-index : goal.invariant-loop-index
invariant-loop-index l =
    string_bytes l.text ++ flat_map (mirror_line l.place) (drop l.index (zip l.mirrors l.granted))
    ≡ string_bytes l.initial.text ++ mirror_lines l.place l.mirrors l.granted
