use Rattle.std.proofs.Common.{◌≡◌, ◌≤◌, length, take}
use Rattle.http_wire.specs.Sending.{joined}
use Rattle.http_wire.proofs.sending.join.Given as goal

abbrev pub invariant-loop-text : goal.invariant-loop-text
invariant-loop-text l =
    (l.end ≤ length l.block) × (take l.end l.block ≡ joined (take l.text-index l.texts))
