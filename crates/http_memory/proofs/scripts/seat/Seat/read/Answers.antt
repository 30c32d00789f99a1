use Rattle.http_memory.specs.Peers.{after_read}
use Rattle.http_memory.proofs.SeatLemmas.{changes}
use Rattle.http_memory.proofs.scripts.seat.Seat.read.Goals as goal

pub returns-clause-changes : goal.returns-clause-changes
returns-clause-changes c =
    changes c.args.self.now.peers.items c.args.self.now.ended c.args.self.now.is_open c.index_mut.result.now c.read.new.self
    (after_read c.read.result c.read.new.into) c.requires.live c.index_mut.ensures.value c.read.ensures.gives.traffic
