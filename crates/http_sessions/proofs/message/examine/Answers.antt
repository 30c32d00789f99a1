use Rattle.std.proofs.Common.{sym, ◌∙◌, arith}
use Rattle.http_desks.specs.Uses.{method_of}
use Rattle.http_sessions.proofs.LengthLemmas.{framing_of-bound, plan_few, plan_many, plan_closes, plan_method}
use Rattle.http_sessions.proofs.message.examine.Goals as goal

pub returns-then-shown-gt-MAX_SHOWN-clause-plan : goal.returns-then-shown-gt-MAX_SHOWN-clause-plan
returns-then-shown-gt-MAX_SHOWN-clause-plan c =
    λ head at. plan_many c.args.bytes.now c.args.fields.now c.args.spans.now head at c.if-shown-gt-MAX_SHOWN.true

pub returns-in-Ok-clause-fits : goal.returns-in-Ok-clause-fits
returns-in-Ok-clause-fits c = framing_of-bound _ _ c.in-Ok.size (sym c.in-Ok.ensures)

pub returns-in-Ok-clause-plan : goal.returns-in-Ok-clause-plan
returns-in-Ok-clause-plan c = λ head at. (
  plan_few c.args.bytes.now c.of-method.result.now c.args.fields.now c.args.spans.now head at c.of-method.ensures (omega (arith, c.if-shown-gt-MAX_SHOWN.false)) ∙ sym c.in-Ok.ensures,
  c.of.ensures ∙ (λ k. method_of c.of-method.result.now (c.is_from_browser.ensures k) (c.is_for_another.ensures k))
      ∙ plan_method c.args.bytes.now c.of-method.result.now c.args.fields.now c.args.spans.now head at c.of-method.ensures,
  c.wants_close.ensures ∙ plan_closes c.args.bytes.now c.args.fields.now c.args.spans.now head at,
)

pub returns-in-Err-clause-plan : goal.returns-in-Err-clause-plan
returns-in-Err-clause-plan c = λ head at.
    plan_few c.args.bytes.now c.of-method.result.now c.args.fields.now c.args.spans.now head at c.of-method.ensures (omega (arith, c.if-shown-gt-MAX_SHOWN.false)) ∙ sym c.in-Err.ensures
