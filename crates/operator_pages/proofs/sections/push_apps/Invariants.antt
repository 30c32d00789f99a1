-- The sections so far and those that are left are the whole.
use Rattle.std.proofs.Common.{◌≡◌, ◌++◌, drop, flat_map, string_bytes}
use Rattle.std.specs.List.{zip}
use Rattle.operator_pages.specs.Sections.{app_section, app_sections}
use Rattle.operator_pages.proofs.sections.push_apps.Given as goal

abbrev pub invariant-loop-index : goal.invariant-loop-index
invariant-loop-index l =
    string_bytes l.text ++ flat_map app_section (drop l.index (zip l.apps l.sights))
    ≡ string_bytes l.initial.text ++ app_sections l.apps l.sights
