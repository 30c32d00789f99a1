use Rattle.std.proofs.Common.{◌≡◌, drop}
use Rattle.toml.specs.View.{items_view}
use Rattle.profile_toml.specs.Strings.{strings_from}
use Rattle.profile_toml.proofs.ListLemmas.{with_front}
use Rattle.profile_toml.proofs.tables.strings.read_all.Given as goal

abbrev pub invariant-loop-index : goal.invariant-loop-index
invariant-loop-index l =
    with_front l.strings (strings_from l.list l.index (items_view (drop l.index l.values)))
    ≡ strings_from l.list 0 (items_view l.values)
