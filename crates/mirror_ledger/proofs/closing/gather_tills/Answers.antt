use Rattle.std.proofs.Common.{◌∙◌, ℕ, ◌+◌, ap, arith, sym, zero-add}
use Rattle.mirror_ledger.proofs.TillLemmas.{taken_back}
use Rattle.mirror_ledger.proofs.closing.gather_tills.Goals as goal

pub loop-next-init : goal.loop-next-init
loop-next-init g c = (
  omega (arith, c.in-Some.ensures.cases, c.into_parts-parts.ensures.first.0),
  taken_back (λ t. t.shares.asks) c.args.tills.items c.pop.new.self.items c.in-Some.last 0 _ 0 _ c.in-Some.last.shares.first c.in-Some.ensures.items
      (c.into_parts-parts.ensures.first.1 ∙ ap (λ s. s.first) c.end.ensures.shares ∙ sym (zero-add _)) c.in-Some.last.tallied.at_first (zero-add _),
  omega (arith, c.in-Some.ensures.cases, c.into_parts-parts.ensures.second.0),
  taken_back (λ t. t.shares.asks) c.args.tills.items c.pop.new.self.items c.in-Some.last 1 _ 0 _ c.in-Some.last.shares.second c.in-Some.ensures.items
      (c.into_parts-parts.ensures.second.1 ∙ ap (λ s. s.second) c.end.ensures.shares ∙ sym (zero-add _)) c.in-Some.last.tallied.at_second (zero-add _),
  omega (arith, c.in-Some.ensures.cases, c.into_parts-parts.ensures.third.0),
  taken_back (λ t. t.shares.asks) c.args.tills.items c.pop.new.self.items c.in-Some.last 2 _ 0 _ c.in-Some.last.shares.third c.in-Some.ensures.items
      (c.into_parts-parts.ensures.third.1 ∙ ap (λ s. s.third) c.end.ensures.shares ∙ sym (zero-add _)) c.in-Some.last.tallied.at_third (zero-add _),
  omega (arith, c.in-Some.ensures.cases, c.into_parts-parts.ensures.fourth.0),
  taken_back (λ t. t.shares.asks) c.args.tills.items c.pop.new.self.items c.in-Some.last 3 _ 0 _ c.in-Some.last.shares.fourth c.in-Some.ensures.items
      (c.into_parts-parts.ensures.fourth.1 ∙ ap (λ s. s.fourth) c.end.ensures.shares ∙ sym (zero-add _)) c.in-Some.last.tallied.at_fourth (zero-add _),
)

pub loop-next-preserved : goal.loop-next-preserved
loop-next-preserved g c = (
  omega (arith, c.in-Some-pop.ensures.cases, c.into_parts.ensures.first.0, c.add_to.ensures.first.0, c.loop-next.invariant.0),
  taken_back (λ t. t.shares.asks) c.loop-next.tills.items c.pop-in-loop-next.new.self.items c.in-Some-pop.next 0 _ c.loop-next.parts.first.amount _
      c.in-Some-pop.next.shares.first c.in-Some-pop.ensures.items
      (c.add_to.ensures.first.1 ∙ ap (λ (a : ℕ). c.loop-next.parts.first.amount + a) (c.into_parts.ensures.first.1 ∙ ap (λ s. s.first) c.end-in-Some-pop.ensures.shares))
      c.in-Some-pop.next.tallied.at_first c.loop-next.invariant.1,
  omega (arith, c.in-Some-pop.ensures.cases, c.into_parts.ensures.second.0, c.add_to.ensures.second.0, c.loop-next.invariant.2),
  taken_back (λ t. t.shares.asks) c.loop-next.tills.items c.pop-in-loop-next.new.self.items c.in-Some-pop.next 1 _ c.loop-next.parts.second.amount _
      c.in-Some-pop.next.shares.second c.in-Some-pop.ensures.items
      (c.add_to.ensures.second.1 ∙ ap (λ (a : ℕ). c.loop-next.parts.second.amount + a) (c.into_parts.ensures.second.1 ∙ ap (λ s. s.second) c.end-in-Some-pop.ensures.shares))
      c.in-Some-pop.next.tallied.at_second c.loop-next.invariant.3,
  omega (arith, c.in-Some-pop.ensures.cases, c.into_parts.ensures.third.0, c.add_to.ensures.third.0, c.loop-next.invariant.4),
  taken_back (λ t. t.shares.asks) c.loop-next.tills.items c.pop-in-loop-next.new.self.items c.in-Some-pop.next 2 _ c.loop-next.parts.third.amount _
      c.in-Some-pop.next.shares.third c.in-Some-pop.ensures.items
      (c.add_to.ensures.third.1 ∙ ap (λ (a : ℕ). c.loop-next.parts.third.amount + a) (c.into_parts.ensures.third.1 ∙ ap (λ s. s.third) c.end-in-Some-pop.ensures.shares))
      c.in-Some-pop.next.tallied.at_third c.loop-next.invariant.5,
  omega (arith, c.in-Some-pop.ensures.cases, c.into_parts.ensures.fourth.0, c.add_to.ensures.fourth.0, c.loop-next.invariant.6),
  taken_back (λ t. t.shares.asks) c.loop-next.tills.items c.pop-in-loop-next.new.self.items c.in-Some-pop.next 3 _ c.loop-next.parts.fourth.amount _
      c.in-Some-pop.next.shares.fourth c.in-Some-pop.ensures.items
      (c.add_to.ensures.fourth.1 ∙ ap (λ (a : ℕ). c.loop-next.parts.fourth.amount + a) (c.into_parts.ensures.fourth.1 ∙ ap (λ s. s.fourth) c.end-in-Some-pop.ensures.shares))
      c.in-Some-pop.next.tallied.at_fourth c.loop-next.invariant.7,
)
