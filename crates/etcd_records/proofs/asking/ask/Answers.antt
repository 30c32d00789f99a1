use Rattle.std.proofs.Common.{◌≡◌, ◌∙◌, ◌||◌, refl, arith}
use Rattle.std.proofs.lemmas.Grind.{common_steps}
use Rattle.etcd_records.specs.Exchanges.{outcome_of}
use Rattle.etcd_records.specs.Replies.{may_be_done}
use Rattle.etcd_records.proofs.AskLemmas.{one_missed}
use Rattle.etcd_records.proofs.asking.ask.Goals as goal
use Rattle.etcd_records.proofs.asking.ask.Goals.{then-in_doubt, else-in_doubt}

pub loop-attempt-preserved : goal.loop-attempt-preserved
loop-attempt-preserved g c =
    let said = rw c.in-Missed.is at c.in-Ok.ensures in
    let later : c.if-in_doubt.in_doubt ≡ (c.loop-attempt.in_doubt || may_be_done (outcome_of c.post-came.result)) =
    elim c.if-in_doubt.branch [ then-in_doubt w ↦ rw (w.in_doubt-is, w.if-in_doubt.true) refl | else-in_doubt w ↦ rw (w.in_doubt-is, w.if-in_doubt.false) said.2 ] in
    one_missed _ _ _ _ _ _ _ _ _ _ _ c.post-came.result c.loop-attempt.invariant (c.pass_over.ensures ∙ c.post-came.ensures) said.0 said.1 later

pub returns-in_default : goal.returns-in_default
returns-in_default g c = grind (arith, common_steps)

pub returns-in-Reply : goal.returns-in-Reply
returns-in-Reply g c = grind (arith, common_steps)
