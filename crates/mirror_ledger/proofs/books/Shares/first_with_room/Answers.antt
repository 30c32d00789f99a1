use Rattle.std.proofs.Common.{rules}
use Rattle.mirror_ledger.proofs.books.Shares.first_with_room.Goals as goal

pub loop-index-preserved : goal.loop-index-preserved
loop-index-preserved g c = search rules
