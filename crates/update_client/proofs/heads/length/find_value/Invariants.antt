use Rattle.std.proofs.Common.{◌≡◌, length, map, All}
use Rattle.httparse.specs.Spans.{IsHeaderWithin, header_bytes}
use Rattle.http_wire.specs.Fields.{values_named}
use Rattle.update_client.proofs.heads.length.find_value.Given as goal

abbrev pub invariant-loop-fields : goal.invariant-loop-fields
invariant-loop-fields l =
    All (IsHeaderWithin (length l.buf)) l.fields
    × (values_named l.name (map (header_bytes l.buf) l.fn.fields) ≡ values_named l.name (map (header_bytes l.buf) l.fields))

abbrev pub decreases-loop-fields : goal.decreases-loop-fields
decreases-loop-fields l = length l.fields
