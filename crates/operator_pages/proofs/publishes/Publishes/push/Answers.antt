use Rattle.std.proofs.Common.{rules, ◌≡◌, ◌≤◌, ◌+◌, ◌∙◌, ◌∷◌, List, ap, length, min, take}
use Rattle.operator_pages.specs.declared.publishes.Publish.{Publish}
use Rattle.operator_pages.proofs.PublishLemmas.{push_first}
use Rattle.operator_pages.proofs.publishes.Publishes.push.Goals as goal

pub returns : goal.returns
returns c =
    let kept = c.self.inside.kept in
    let many = c.self.inside.many in
    let sized : length kept ≡ 10 = search rules in
    let few : many ≤ 10 = search rules in
    let size : c.min-self-inside.result ≡ min (many + 1) 10 = search rules in
    let list : take many kept ≡ c.args.self.now = search rules in
    rw (size) (push_first c.args.publish kept many _ sized few ∙ ap (λ (others : List Publish). take 10 (c.args.publish ∷ others)) list)
