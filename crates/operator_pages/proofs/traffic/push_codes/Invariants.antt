-- The lines so far and those that are left are the whole.
use Rattle.std.proofs.Common.{◌≡◌, ◌++◌, drop, flat_map, string_bytes}
use Rattle.std.specs.List.{zip}
use Rattle.tallies.specs.declared.codes.TheConstants.{CODES}
use Rattle.operator_pages.specs.Traffic.{code_sample}
use Rattle.operator_pages.proofs.traffic.push_codes.Given as goal

abbrev pub invariant-loop-index : goal.invariant-loop-index
invariant-loop-index l =
    string_bytes l.text ++ flat_map code_sample (drop l.index (zip CODES l.replies))
    ≡ string_bytes l.initial.text ++ flat_map code_sample (zip CODES l.replies)
