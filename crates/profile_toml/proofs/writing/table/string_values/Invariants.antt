use Rattle.std.proofs.Common.{◌≡◌, take}
use Rattle.toml.specs.View.{items_view}
use Rattle.profile_toml.specs.WrittenTables.{string_items}
use Rattle.profile_toml.proofs.writing.table.string_values.Given as goal

abbrev pub invariant-loop-text : goal.invariant-loop-text
invariant-loop-text l =
    items_view l.values.items ≡ string_items (take l.text-index l.texts)
