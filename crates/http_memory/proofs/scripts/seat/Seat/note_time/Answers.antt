use Rattle.http_ports.specs.Traffic.{timing}
use Rattle.http_memory.proofs.SeatLemmas.{changes}
use Rattle.http_memory.proofs.scripts.seat.Seat.note_time.Goals as goal

pub returns-clause-changes : goal.returns-clause-changes
returns-clause-changes c =
    changes c.args.self.now.peers.items c.args.self.now.ended c.args.self.now.is_open c.index_mut.result.now c.note_time.new.self
    (timing c.args.seconds _) c.requires.live c.index_mut.ensures.value c.note_time.ensures.noted
