use Rattle.http_ports.specs.Traffic.{marked}
use Rattle.http_ports.specs.declared.last.Last.TheVariants.{Yields}
use Rattle.http_memory.proofs.SeatLemmas.{changes}
use Rattle.http_memory.proofs.scripts.seat.Seat.yield_turn.Goals as goal

pub returns-clause-changes : goal.returns-clause-changes
returns-clause-changes c = changes c.args.self.now.peers.items c.args.self.now.ended c.args.self.now.is_open c.index_mut.result.now
    c.yield_turn.new.self (marked Yields) c.requires.live c.index_mut.ensures.value c.yield_turn.ensures.yields
