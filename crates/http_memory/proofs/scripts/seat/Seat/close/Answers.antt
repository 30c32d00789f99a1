use Rattle.http_memory.proofs.SeatLemmas.{ends}
use Rattle.http_memory.proofs.scripts.seat.Seat.close.Goals as goal

pub returns-clause-ends : goal.returns-clause-ends
returns-clause-ends c = ends c.args.self.now.peers.items c.args.self.now.ended c.args.self.now.is_open
