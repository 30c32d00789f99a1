use Rattle.std.proofs.Common.{[], arith}
use Rattle.sqlite.specs.Held.{state}
use Rattle.history.proofs.RowLemmas.{Holds-nil}
use Rattle.history.proofs.refilling.refill.Goals as goal

pub insert-requires-clause-next : goal.insert-requires-clause-next
insert-requires-clause-next g c clean =
    (c.args.number, [], Holds-nil (state g.S.Store c.create_table.new.conn).now.trees c.args.number (c.in_ok-create_table.ensures.empty clean), omega arith)
