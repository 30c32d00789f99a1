use Rattle.std.proofs.Common.{◌∙◌, ap}
use Rattle.std.proofs.lemmas.Result.{IfOk-weaker}
use Rattle.advice.specs.Replies.{explained}
use Rattle.advice.proofs.advising.explain_failure.Goals as goal

pub returns-in-Ok : goal.returns-in-Ok
returns-in-Ok c =
    IfOk-weaker c.explained.result _ _
    (λ said is. is ∙ ap explained (c.as_str.ensures.value ∙ c.in-Ok.ensures.ok)) c.explained.ensures
