use Rattle.replies.proofs.PinnedLemmas.{ArePinnedTables-made}
use Rattle.replies.proofs.pinned.pinned_tables.Goals as goal

pub returns-clause-tables : goal.returns-clause-tables
returns-clause-tables c =
    ArePinnedTables-made c.args.catalogue.now c.args.request.now.session c.args.request.now.apps c.in_ok-keys.keys.items c.in_ok-tables.tables.items
    c.in_ok-keys.ensures (rw c.as_slice.ensures.value at c.in_ok-tables.ensures.tables)
