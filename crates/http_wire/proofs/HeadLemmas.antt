-- A head of at most 16384 bytes has at most 5461 fields: each has three bytes or more.
use Rattle.std.proofs.Common.{◌≡◌, ℕ, ◌+◌, ◌*◌, ◌≤◌, List, [], ◌∷◌, length, ap, arith, length-append}
use Rattle.std.specs.List.{AllByRecursion}
use Rattle.std.proofs.lemmas.List.Elements.{recursion_from_All}
use Rattle.std.specs.List.{flat_map}
use Rattle.httparse.specs.Grammar.{LineEnd, crlf, lf, print_end, Field, IsField, print_field, RequestHead, IsRequestHead, print_request}
use Rattle.httparse.specs.Spans.{RequestExceeds}

end_some : (end : LineEnd) → 1 ≤ length (print_end end)
end_some crlf = omega arith
end_some lf = omega arith

field_long : (f : Field) → IsField f → 3 ≤ length (print_field f)
field_long f ok = grind (arith, length-append, end_some f.end, ok.name.0)

fields_long : (fields : List Field) → AllByRecursion IsField fields → 3 * length fields ≤ length (flat_map print_field fields)
fields_long [] all = omega arith
fields_long (f ∷ fields) all =
    let here = field_long f all.0 in
    let rest = fields_long fields all.1 in
    omega (arith, length-append (print_field f) (flat_map print_field fields))

head_long : (h : RequestHead) → IsRequestHead h → 3 * length h.fields + 1 ≤ length (print_request h)
unfolding print_request
head_long h ok =
    let lines = fields_long h.fields (recursion_from_All IsField h.fields ok.fields) in
    let name = ok.method.0 in
    grind (arith, length-append)

pub never_exceeds :
    (bytes : List ℕ) (room : ℕ) →
    room ≡ 5461 →
    length bytes ≤ 16384 →
    RequestExceeds room bytes →
    ⊥
never_exceeds bytes room places short (front, rest, cut, h, reads, over) =
    let long = head_long h reads.0 in
    let whole = ap length reads.1 in
    let parts = ap length cut in
    omega (arith, length-append front rest, length-append front (print_end lf), length-append (print_request h) [])
