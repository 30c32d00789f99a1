use Rattle.std.proofs.Common.{◌≡◌, ℕ, length, ap, subst, arith}
use Rattle.editions.specs.Marks.{AreEach, AreMarksOf}
use Rattle.editions.proofs.MarkLemmas.{AreEach-more, KeepsOthers-marks}
use Rattle.editions.proofs.marks.marks_of.Goals as goal

pub loop-index-preserved : goal.loop-index-preserved
loop-index-preserved c =
    let own = rw (c.cohorts_left.ensures, c.cohorts.ensures) at c.in_ok-own.ensures in
    AreEach-more (AreMarksOf c.args.before.now c.args.batch.now c.args.made.now) c.loop-index.index c.loop-index.marks.items
    c.push.new.self.items c.in_ok-own.own c.loop-index.invariant own c.in_ok-push.ensures.items

pub returns-clause-marks : goal.returns-clause-marks
returns-clause-marks c =
    let shown = ap length c.apps-index-end.ensures in
    let ends : c.loop-index.index ≡ length c.args.made.now = omega arith in
    subst (λ (n : ℕ). AreEach (AreMarksOf c.args.before.now c.args.batch.now c.args.made.now) n c.loop-index.marks.items) ends c.loop-index.invariant

pub returns-clause-kept : goal.returns-clause-kept
returns-clause-kept c =
    let shown = ap length c.apps-index-end.ensures in
    let ends : c.loop-index.index ≡ length c.args.made.now = omega arith in
    KeepsOthers-marks c.other_releases.ensures c.args.before.now c.args.made.now c.args.batch.now c.loop-index.marks.items c.requires
    (subst (λ (n : ℕ). AreEach (AreMarksOf c.args.before.now c.args.batch.now c.args.made.now) n c.loop-index.marks.items) ends c.loop-index.invariant)
