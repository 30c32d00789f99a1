use Rattle.std.proofs.Common.{◌≡◌, map}
use Rattle.toml.specs.View.{items_view, table_view}
use Rattle.profile_toml.specs.WrittenTables.{table_items}
use Rattle.profile_toml.proofs.writing.table.table_values.Given as goal

abbrev pub invariant-loop-table : goal.invariant-loop-table
invariant-loop-table l =
    items_view l.values.items ≡ table_items (map table_view l.yielded)
