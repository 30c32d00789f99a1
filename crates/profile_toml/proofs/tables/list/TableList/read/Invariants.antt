use Rattle.std.proofs.Common.{◌≡◌, drop}
use Rattle.toml.specs.View.{items_view}
use Rattle.profile_toml.specs.Lists.{each, each_from}
use Rattle.profile_toml.specs.Readers.{listed}
use Rattle.profile_toml.proofs.ListLemmas.{with_front}
use Rattle.profile_toml.proofs.tables.list.TableList.read.Given as goal

abbrev pub invariant-loop-index : goal.invariant-loop-index
invariant-loop-index g l =
    with_front l.records
    (each_from (g.K.TableKind.reads l.kind) l.self.path l.index (items_view (drop l.index l.self.values.now)))
    ≡ each (g.K.TableKind.reads l.kind) (listed l.self)
