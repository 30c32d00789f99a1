use Rattle.std.proofs.Common.{◌+◌, ◌≤◌, ℕ, arith, length, length-drop, length-take}
use Rattle.streams.proofs.WritingLemmas.{Appends-kept, Appends-next}
use Rattle.streams.proofs.writing.put.Goals.{in-Ok, in-Err}
use Rattle.streams.proofs.writing.put.Goals as goal

pub loop-preserved : goal.loop-preserved
loop-preserved g c =
    elim c.match-write.branch [
      | in-Ok w ↦ (
          let within : c.loop.taken ≤ length c.args.bytes.now = c.loop.invariant.0 in
          let fits : c.loop.taken + w.in-Ok.count ≤ length c.args.bytes.now =
          omega (arith, w.in-Ok.ensures.bound, length-take {A = ℕ}, length-drop {A = ℕ}) in
          rw w.taken-is
          (fits, Appends-next _ _ _ c.loop.taken w.in-Ok.count c.args.bytes.now fits c.loop.invariant.1 w.in-Ok.ensures.bytes)
          )
      | in-Err w ↦ rw w.taken-is (c.loop.invariant.0, Appends-kept _ _ _ _ c.loop.invariant.1 w.in-Err.ensures.bytes)
    ]
