use Rattle.std.proofs.Common.{sym, ◌∙◌}
use Rattle.http_wire.specs.Browsers.{is_browsers}
use Rattle.httparse.specs.Spans.{header_bytes}
use Rattle.http_wire.proofs.FieldLemmas.{list_any-here, list_any-more}
use Rattle.http_wire.proofs.heads.browser.is_from_browser.Goals as goal

pub returns-then-is_browsers : goal.returns-then-is_browsers
returns-then-is_browsers c =
    sym (list_any-here is_browsers (header_bytes c.args.buf.now) c.args.fields.now c.loop-field.field-index _ c.loop-field-test.true (sym c.is_browsers.ensures ∙ c.if-is_browsers.true))

pub loop-field-preserved : goal.loop-field-preserved
loop-field-preserved c =
    list_any-more is_browsers (header_bytes c.args.buf.now) c.args.fields.now c.loop-field.field-index _ c.loop-field-test.true c.loop-field.invariant (sym c.is_browsers.ensures ∙ c.if-is_browsers.false)
