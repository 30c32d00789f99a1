use Rattle.std.proofs.Common.{◌≡◌, false, map, take}
use Rattle.std.specs.Prelude.{codes}
use Rattle.std.specs.List.{list_any}
use Rattle.httparse.specs.Spans.{header_bytes}
use Rattle.http_wire.specs.Fields.{is_named, values_named}
use Rattle.http_wire.specs.Lengths.{IsLengthOf}
use Rattle.http_wire.proofs.heads.body_length.framing.Given as goal

abbrev pub invariant-loop-field : goal.invariant-loop-field
invariant-loop-field l =
    let seen = map (header_bytes l.buf) (take l.field-index l.fields) in
    (list_any (is_named (codes "transfer-encoding")) seen ≡ false)
    × IsLengthOf l.length (values_named (codes "content-length") seen)
