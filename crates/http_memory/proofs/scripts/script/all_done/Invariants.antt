-- The seats so far are done.
use Rattle.std.proofs.Common.{◌<◌, ℕ, get_or}
use Rattle.http_memory.specs.Seats.{IsDone}
use Rattle.http_memory.specs.declared.scripts.seat.Seat.{Seat}
use Rattle.http_memory.proofs.scripts.script.all_done.Given as goal

abbrev pub invariant-loop-slot : goal.invariant-loop-slot
invariant-loop-slot l = (k : ℕ) (d : Seat) → k < l.slot → IsDone (get_or l.seats k d)
