use Rattle.std.proofs.Common.{◌≡◌, ◌+◌, arith, ℕ, suc, List, subst, take}
use Rattle.omaha_histories.specs.Restarting.{FollowAll, FollowsAs}
use Rattle.omaha_histories.proofs.LeadLemmas.{FollowAll-next}
use Rattle.omaha_histories.proofs.restarts.restoring.follow_all.Goals as goal

pub loop-index-preserved : goal.loop-index-preserved
loop-index-preserved c =
    let next : suc c.loop-index.index ≡ c.loop-index.index + 1 = omega arith in
    subst (λ (n : ℕ). FollowAll c.args.draft.now (take n c.args.others.now) c.follow.new.self) next
    (FollowAll-next c.args.draft.now c.loop-index.draft c.follow.new.self c.args.others.now c.loop-index.index
    c.index-others-index.result (omega (arith, c.loop-index-test.true)) c.index-others-index.is c.loop-index.invariant
    (subst (λ (b : List ℕ). FollowsAs c.index-others-index.result.kind b c.loop-index.draft c.follow.new.self)
    c.as_slice.ensures c.in-Ok.ensures.ok))
