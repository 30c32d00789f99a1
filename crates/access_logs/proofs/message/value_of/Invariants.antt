use Rattle.std.proofs.Common.{◌≡◌, drop, map}
use Rattle.httparse.specs.Borrowed.{header_parts}
use Rattle.access_logs.specs.Entries.{value_named}
use Rattle.access_logs.proofs.message.value_of.Given as goal

abbrev pub invariant-loop-field : goal.invariant-loop-field
invariant-loop-field l =
    value_named l.name (map header_parts l.fields) ≡ value_named l.name (map header_parts (drop l.field-index l.fields))
