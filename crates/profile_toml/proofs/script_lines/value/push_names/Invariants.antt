use Rattle.std.proofs.Common.{◌≡◌, ◌++◌, take}
use Rattle.std.specs.List.{flat_map}
use Rattle.profile_toml.specs.Values.{name_bytes}
use Rattle.profile_toml.proofs.script_lines.value.push_names.Given as goal

abbrev pub invariant-loop-byte : goal.invariant-loop-byte
invariant-loop-byte l = l.text.items ≡ l.initial.text.items ++ flat_map name_bytes (take l.byte-index l.value)
