use Rattle.http_memory.specs.Peers.{after_write}
use Rattle.http_memory.proofs.SeatLemmas.{changes}
use Rattle.http_memory.proofs.scripts.seat.Seat.write.Goals as goal

pub returns-clause-changes : goal.returns-clause-changes
returns-clause-changes c =
    changes c.args.self.now.peers.items c.args.self.now.ended c.args.self.now.is_open c.index_mut.result.now c.write.new.self
    (after_write c.write.result c.args.bytes.now) c.requires.live c.index_mut.ensures.value c.write.ensures.takes.traffic
