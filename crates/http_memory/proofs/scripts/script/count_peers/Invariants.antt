-- The peers of the seats so far.
use Rattle.std.proofs.Common.{◌≡◌, take}
use Rattle.http_memory.specs.Seats.{peers_in}
use Rattle.http_memory.proofs.scripts.script.count_peers.Given as goal

abbrev pub invariant-loop-seat : goal.invariant-loop-seat
invariant-loop-seat l = l.count ≡ peers_in (take l.seat-index l.seats)
