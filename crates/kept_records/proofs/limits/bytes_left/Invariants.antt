-- What is left of the limit, and the bytes of the records so far, are the limit.
use Rattle.std.proofs.Common.{◌≡◌, ◌+◌, take}
use Rattle.kept_records.specs.Keeping.{bytes_in}
use Rattle.kept_records.proofs.limits.bytes_left.Given as goal

abbrev pub invariant-loop-record : goal.invariant-loop-record
invariant-loop-record l = l.left + bytes_in (take l.record-index l.records) ≡ l.limit
