use Rattle.std.proofs.Common.{◌≡◌, ◌∙◌, Bool, true, refl, ap, arith}
use Rattle.http_ports.specs.Ports.{expiring}
use Rattle.http_ports.specs.Traffic.{IsOpen, marked}
use Rattle.http_ports.specs.declared.last.Last.TheVariants.{Reported}
use Rattle.http_memory.specs.Peers.{traffic_of}
use Rattle.http_memory.proofs.SeatLemmas.{changes, current_of, slot_at}
use Rattle.http_memory.proofs.scripts.seat.Seat.report.Goals as goal

pub returns-then-not-is_stuck-clause-reports : goal.returns-then-not-is_stuck-clause-reports
returns-then-not-is_stuck-clause-reports c =
    let seat = c.args.self.now in
    let is_open : seat.is_open ≡ true = c.if-not-self.false in
    let current = current_of seat.peers.items seat.ended c.index_mut-peer.result.now
    (omega (arith, seat.opened is_open, seat.peers.ok)) c.index_mut-peer.ensures.value in
    let live : IsOpen (slot_at seat.peers.items seat.ended seat.is_open) = (
      traffic_of c.index_mut-peer.result.now,
      ap (λ (o : Bool). (slot_at seat.peers.items seat.ended o).current) is_open ∙ current,
    ) in (
      refl,
      live,
      changes seat.peers.items seat.ended seat.is_open c.index_mut-peer.result.now c.report.new.self (marked Reported) live
          c.index_mut-peer.ensures.value c.report.ensures.reported,
    )

pub returns-clause-reports : goal.returns-clause-reports
returns-clause-reports c =
    let seat = c.args.self.now in
    let is_open : seat.is_open ≡ true = c.if-not-self.false in
    let current = current_of seat.peers.items seat.ended c.index_mut-peer.result.now
    (omega (arith, seat.opened is_open, seat.peers.ok)) c.index_mut-peer.ensures.value in
    let live : IsOpen (slot_at seat.peers.items seat.ended seat.is_open) = (
      traffic_of c.index_mut-peer.result.now,
      ap (λ (o : Bool). (slot_at seat.peers.items seat.ended o).current) is_open ∙ current,
    ) in (
      refl,
      (live.0, live.1, c.is_stuck.ensures c.if-not-is_stuck.false),
      changes seat.peers.items seat.ended seat.is_open c.index_mut-peer.result.now c.expire.new.self expiring live
          c.index_mut-peer.ensures.value c.expire.ensures.expired,
    )
