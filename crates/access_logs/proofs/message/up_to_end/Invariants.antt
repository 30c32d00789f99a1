use Rattle.std.proofs.Common.{◌≡◌, ◌<◌, ℕ, false, get_or}
use Rattle.access_logs.specs.Entries.{ends_line}
use Rattle.access_logs.proofs.message.up_to_end.Given as goal

abbrev pub invariant-loop-index : goal.invariant-loop-index
invariant-loop-index l = (k : ℕ) → k < l.index → ends_line (get_or l.bytes k 0) ≡ false
