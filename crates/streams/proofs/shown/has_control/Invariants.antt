use Rattle.std.proofs.Common.{◌≡◌, drop}
use Rattle.streams.specs.Strings.{has_control, has_control_after}
use Rattle.streams.proofs.shown.has_control.Given as goal

abbrev pub invariant-loop-byte : goal.invariant-loop-byte
invariant-loop-byte l = has_control l.fn.string ≡ has_control_after l.last (drop l.byte-index l.bytes)
