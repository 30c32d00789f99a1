use Rattle.std.proofs.Common.{rules, ◌≡◌, ◌+◌, ◌++◌, ◌∷◌, [], All, sym, subst}
use Rattle.std.proofs.lemmas.List.Elements.{All-push}
use Rattle.std.specs.List.{AllZip}
use Rattle.rtrb.specs.Ring.{consumer_capacity, received}
use Rattle.access_logs.specs.Queues.{AreEnds, IsOpened}
use Rattle.access_logs.proofs.RingLemmas.{ends-push}
use Rattle.access_logs.proofs.queues.opening.open_rings.Goals as goal

pub loop-preserved : goal.loop-preserved
loop-preserved c =
    let before = c.loop in
    let sender = c.in_ok-sender.sender in
    let end = c.in_ok-sender.end in
    let senders = before.senders.items ++ sender ∷ [] in
    let rings = before.rings.items ++ end ∷ [] in
    let one : c.push.new.self.items ≡ senders = search rules in
    let two : c.push-in-loop.new.self.items ≡ rings = search rules in
    record {
      many = search rules;
      fresh =
          subst (λ those. All (IsOpened c.args.bytes) those) (sym one)
          (All-push (IsOpened c.args.bytes) before.senders.items sender before.invariant.fresh c.in_ok-sender.ensures.sender);
      ends =
          subst (λ those. AllZip (λ one other. AreEnds one.end other) those c.push-in-loop.new.self.items) (sym one)
          (subst (λ others. AllZip (λ one other. AreEnds one.end other) senders others) (sym two)
          (ends-push before.senders.items before.rings.items sender end before.invariant.ends c.in_ok-sender.ensures.ends));
      unread =
          subst (λ those. All (λ other. received other ≡ []) those) (sym two)
          (All-push (λ other. received other ≡ []) before.rings.items end before.invariant.unread c.in_ok-sender.ensures.end);
      capacity =
          subst (λ those. All (λ other. consumer_capacity other ≡ c.args.bytes + 61) those) (sym two)
          (All-push (λ other. consumer_capacity other ≡ c.args.bytes + 61) before.rings.items end before.invariant.capacity
          c.in_ok-sender.ensures.capacity);
    }
