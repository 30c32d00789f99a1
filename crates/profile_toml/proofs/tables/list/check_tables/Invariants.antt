use Rattle.std.proofs.Common.{◌≡◌, drop}
use Rattle.toml.specs.View.{items_view}
use Rattle.profile_toml.specs.Lists.{all_tables}
use Rattle.profile_toml.proofs.tables.list.check_tables.Given as goal

abbrev pub invariant-loop-index : goal.invariant-loop-index
invariant-loop-index l =
    all_tables l.list l.index (items_view (drop l.index l.values))
    ≡ all_tables l.list 0 (items_view l.values)
