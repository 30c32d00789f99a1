use Rattle.std.proofs.Common.{map, take}
use Rattle.std.specs.Fmt.{HasWritten, IsPlainFormatter}
use Rattle.kept_records.specs.Messages.{as_printable}
use Rattle.kept_records.proofs.words.WordsDisplay.fmt.Given as goal

abbrev pub invariant-loop-byte : goal.invariant-loop-byte
invariant-loop-byte g l =
    IsPlainFormatter l.fn.f →
    HasWritten g.W.Write.write_str_gives l.fn.f (map as_printable (take l.byte-index l.byte-items)) l.f
