-- The lines so far and those that are left are the whole.
use Rattle.std.proofs.Common.{◌≡◌, ◌++◌, drop, flat_map, string_bytes}
use Rattle.std.specs.List.{zip}
use Rattle.operator_pages.specs.Traffic.{offered_of_mirror}
use Rattle.operator_pages.proofs.traffic.push_mirrors.Given as goal

abbrev pub invariant-loop-index : goal.invariant-loop-index
invariant-loop-index l =
    string_bytes l.text ++ flat_map offered_of_mirror (drop l.index (zip l.mirrors l.bytes))
    ≡ string_bytes l.initial.text ++ flat_map offered_of_mirror (zip l.mirrors l.bytes)
