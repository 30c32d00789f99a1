use Rattle.std.proofs.Common.{◌≡◌, ◌++◌, string_bytes, take}
use Rattle.operator_pages.specs.Tables.{name_tags}
use Rattle.operator_pages.proofs.tables.push_names.Given as goal

abbrev pub invariant-loop-name : goal.invariant-loop-name
invariant-loop-name l = string_bytes l.text ≡ string_bytes l.initial.text ++ name_tags (take l.name-index l.names)
