use Rattle.std.proofs.Common.{◌||◌, ◌==◌, sym, ap, ◌∙◌}
use Rattle.http_wire.specs.Closing.{closes}
use Rattle.httparse.specs.Spans.{header_bytes}
use Rattle.http_wire.proofs.FieldLemmas.{list_any-here, list_any-more, or_true}
use Rattle.http_wire.proofs.heads.closing.wants_close.Goals as goal

pub returns-then-closes : goal.returns-then-closes
returns-then-closes c =
    let found = list_any-here closes (header_bytes c.args.buf.now) c.args.fields.now c.loop-field.field-index _ c.loop-field-test.true (sym c.closes.ensures ∙ c.if-closes.true) in
    sym (ap (λ b. (c.args.minor == 0) || b) found ∙ or_true (c.args.minor == 0))

pub loop-field-preserved : goal.loop-field-preserved
loop-field-preserved c =
    list_any-more closes (header_bytes c.args.buf.now) c.args.fields.now c.loop-field.field-index _ c.loop-field-test.true c.loop-field.invariant (sym c.closes.ensures ∙ c.if-closes.false)
