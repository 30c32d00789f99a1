use Rattle.std.proofs.Common.{arith, drop, inr, subst}
use Rattle.std.proofs.lemmas.Grind.{common_steps}
use Rattle.update_client.specs.declared.heads.length.BodyLength.{BodyLength}
use Rattle.update_client.specs.Replies.{Announces}
use Rattle.update_client.proofs.ReplyLemmas.{announced}
use Rattle.update_client.proofs.opening.read_opening.Goals as goal

pub returns-in_default-clause-opened : goal.returns-in_default-clause-opened
returns-in_default-clause-opened g c =
    let held = c.read_head.new.held.items in
    let start = c.in_ok-start.start in
    let rest = drop start.head held in
    let (consumed, found) = c.in_ok-start.ensures.read in
    let said = subst (λ (size : BodyLength). Announces held start.status size rest) c.in_default.is (announced held start found) in
    (held, inr (start.status, rest, consumed, said))

pub returns-then-start-ne200-clause-opened : goal.returns-then-start-ne200-clause-opened
returns-then-start-ne200-clause-opened g c =
    let held = c.read_head.new.held.items in
    let start = c.in_ok-start.start in
    let rest = drop start.head held in
    let (consumed, found) = c.in_ok-start.ensures.read in
    let said = subst (λ (size : BodyLength). Announces held start.status size rest) c.in-Known.is (announced held start found) in
    (held, start.status, c.in-Known.left, rest, consumed, said, c.if-start-ne200.true)

pub invariant_of-result : goal.invariant_of-result
invariant_of-result g c = grind (arith, common_steps)
