use Rattle.std.proofs.Common.{sym, ◌∙◌}
use Rattle.http_wire.specs.Hosts.{is_foreign}
use Rattle.httparse.specs.Spans.{header_bytes}
use Rattle.http_wire.proofs.FieldLemmas.{list_any-here, list_any-more}
use Rattle.http_wire.proofs.heads.host.is_for_another.Goals as goal

pub returns-then-is_foreign : goal.returns-then-is_foreign
returns-then-is_foreign c =
    sym (list_any-here is_foreign (header_bytes c.args.buf.now) c.args.fields.now c.loop-field.field-index _ c.loop-field-test.true (sym c.is_foreign.ensures ∙ c.if-is_foreign.true))

pub loop-field-preserved : goal.loop-field-preserved
loop-field-preserved c =
    list_any-more is_foreign (header_bytes c.args.buf.now) c.args.fields.now c.loop-field.field-index _ c.loop-field-test.true c.loop-field.invariant (sym c.is_foreign.ensures ∙ c.if-is_foreign.false)
