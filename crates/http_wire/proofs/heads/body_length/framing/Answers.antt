use Rattle.std.proofs.Common.{List, cond, map, sym, subst, ap, ◌∙◌}
use Rattle.std.specs.Prelude.{codes, Err}
use Rattle.std.specs.List.{list_any}
use Rattle.std.proofs.lemmas.List.{take_all}
use Rattle.httparse.specs.Spans.{header_bytes}
use Rattle.http_wire.specs.Fields.{Pair, is_named, values_named}
use Rattle.http_wire.specs.Framing.{framing_of, length_by}
use Rattle.http_wire.specs.Lengths.{IsLengthOf}
use Rattle.http_wire.specs.declared.heads.status.Status.TheVariants as status
use Rattle.http_wire.proofs.FieldLemmas.{list_any-here, list_any-more, values_named-more, values_named-same, length_by-kept}
use Rattle.http_wire.proofs.heads.body_length.framing.Goals.{then-is_named-2, else-is_named-2}
use Rattle.http_wire.proofs.heads.body_length.framing.Goals as goal

pub returns-then-is_named : goal.returns-then-is_named
unfolding framing_of
returns-then-is_named c =
    let fields = map (header_bytes c.args.buf.now) c.args.fields.now in
    let found = list_any-here (is_named (codes "transfer-encoding")) (header_bytes c.args.buf.now) c.args.fields.now
    c.loop-field.field-index _ c.loop-field-test.true (sym c.is_named.ensures ∙ c.if-is_named.true) in
    sym (ap (λ b. cond b (Err status.NotImplemented) (length_by c.args.method.now (values_named (codes "content-length") fields))) found)

pub loop-field-preserved : goal.loop-field-preserved
loop-field-preserved c = (
  list_any-more (is_named (codes "transfer-encoding")) (header_bytes c.args.buf.now) c.args.fields.now
      c.loop-field.field-index _ c.loop-field-test.true c.loop-field.invariant.0 (sym c.is_named.ensures ∙ c.if-is_named.false),
  elim c.if-is_named-2.branch [
    | then-is_named-2 w ↦ (
        let more = values_named-more (codes "content-length") (header_bytes c.args.buf.now) c.args.fields.now
        c.loop-field.field-index _ c.loop-field-test.true (sym c.is_named-in-loop-field.ensures ∙ w.if-is_named-2.true) in
        rw w.length-is
        (subst (IsLengthOf w.then-length.result) (sym more)
        (rw w.of.ensures at (w.then-length.ensures _ c.loop-field.invariant.1)))
        )
    | else-is_named-2 w ↦ (
        let same = values_named-same (codes "content-length") (header_bytes c.args.buf.now) c.args.fields.now
        c.loop-field.field-index _ c.loop-field-test.true (sym c.is_named-in-loop-field.ensures ∙ w.if-is_named-2.false) in
        rw w.length-is (subst (IsLengthOf c.loop-field.length) (sym same) c.loop-field.invariant.1)
        )
  ],
)

pub returns : goal.returns
unfolding framing_of
returns c =
    let whole = ap (map (header_bytes c.args.buf.now)) (take_all c.loop-field.field-index c.args.fields.now c.loop-field-test.false) in
    let fields = map (header_bytes c.args.buf.now) c.args.fields.now in
    let none = sym (ap (list_any (is_named (codes "transfer-encoding"))) whole) ∙ c.loop-field.invariant.0 in
    let kept = length_by-kept c.loop-field.length c.args.method.now _ c.loop-field.invariant.1 in
    c.of-2.ensures ∙ sym kept ∙ ap (λ (fs : List Pair). length_by c.args.method.now (values_named (codes "content-length") fs)) whole
    ∙ sym (ap (λ b. cond b (Err status.NotImplemented) (length_by c.args.method.now (values_named (codes "content-length") fields))) none)
