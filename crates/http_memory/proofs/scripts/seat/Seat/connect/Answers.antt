use Rattle.std.proofs.Common.{◌∙◌, Bool, ap, sym, arith}
use Rattle.http_ports.specs.Traffic.{no_traffic, with_open}
use Rattle.http_memory.proofs.SeatLemmas.{connects, slot_at}
use Rattle.http_memory.proofs.scripts.seat.Seat.connect.Goals as goal

pub returns-clause-connects : goal.returns-clause-connects
returns-clause-connects c =
    let seat = c.args.self.now in
    connects seat.peers.items seat.ended c.connect.new.self (omega (arith, c.requires.more, seat.peers.ok)) c.connect.ensures.fresh
    ∙ ap (λ (is_open : Bool). with_open (slot_at seat.peers.items seat.ended is_open) no_traffic) (sym c.requires.free)
