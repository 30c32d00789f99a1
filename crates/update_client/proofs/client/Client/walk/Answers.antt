use Rattle.std.proofs.Common.{◌≡◌, ℕ, ◌+◌, ◌*◌, ◌^◌, ◌<◌, ◌≤◌, Option, Ok, sym, subst, arith}
use Rattle.std.proofs.lemmas.Grind.{common_steps}
use Rattle.update_client.specs.declared.installer.Step.{Step}
use Rattle.update_client.specs.Walks.{Turned}
use Rattle.update_client.proofs.WalkLemmas.{SoFar, so_far-more}
use Rattle.update_client.proofs.client.Client.walk.Goals as goal

pub steps-preserved : goal.steps-preserved
steps-preserved g c =
    let (so_far, few, bound, empty, link_same, installer_same, none_rejected, kept) = c.steps.invariant in
    let received = g.L.Link.received c.step.new.link in
    let ended = g.L.Link.ended c.step.new.link in
    let R : Option Step → Type 0 = λ news. Turned c.steps.self c.step.new.self c.steps.steps
    (g.L.Link.posts c.steps.link) (g.L.Link.posts c.step.new.link)
    (g.L.Link.opened c.steps.link) (g.L.Link.opened c.step.new.link)
    (g.I.Installer.commits c.steps.installer) (g.I.Installer.commits c.step.new.installer)
    received ended (Ok news) in
    let turned = subst R c.in-Some.is c.in_ok-step.ensures.turned in
    let same : c.in-Some.step.bytes ≡ c.from-bytes.result = sym c.from-bytes.ensures in
    let more = so_far-more _ _ _ _ _ _ _ _ _ _ _ _ _ _ _ received ended so_far turned in
    let P : ℕ → Type 0 = λ n. SoFar c.args.self.now c.step.new.self (g.L.Link.posts c.args.link.now)
    (g.L.Link.posts c.step.new.link) (g.L.Link.opened c.args.link.now)
    (g.L.Link.opened c.step.new.link) (g.I.Installer.commits c.args.installer.now)
    (g.I.Installer.commits c.step.new.installer) (c.steps.steps + 1) (c.steps.bytes + n) in
    let left : c.steps.steps < 1024 = turned.2 in
    let counted : c.steps.steps + 1 ≤ 1024 = omega (arith, left) in
    let summed : c.steps.bytes + c.from-bytes.result ≤ (c.steps.steps + 1) * 2 ^ 64 = grind (arith, common_steps) in (
      subst P same more,
      counted,
      summed,
      c.in_ok-step.ensures.staged,
      grind (arith, common_steps),
      grind (arith, common_steps),
      grind (arith, common_steps),
      λ first since. c.in_ok-step.ensures.kept first (kept first since),
    )
