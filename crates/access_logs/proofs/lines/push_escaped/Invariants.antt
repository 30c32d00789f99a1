use Rattle.std.proofs.Common.{◌≡◌, ◌++◌, take}
use Rattle.access_logs.specs.Lines.{escaped}
use Rattle.access_logs.proofs.lines.push_escaped.Given as goal

abbrev pub invariant-loop-byte : goal.invariant-loop-byte
invariant-loop-byte l =
    l.line.items ≡ l.initial.line.items ++ escaped (take l.byte-index l.bytes)
