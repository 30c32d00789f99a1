use Rattle.theorems.proofs.ServedLawLemmas.{walks_are_least, walks_are_served}
use Rattle.theorems.proofs.laws.served_walks.Goals as goal

pub returns-clause-served : goal.returns-clause-served
returns-clause-served g c =
    walks_are_served c.replies_are_read_back.ensures c.replies.ensures.each
    (g.L.Link.received c.args.link.now) (g.L.Link.ended c.args.link.now)

pub returns-clause-least : goal.returns-clause-least
returns-clause-least g c =
    walks_are_least c.replies_are_read_back.ensures c.replies.ensures.each
    (g.L.Link.received c.args.link.now) (g.L.Link.ended c.args.link.now)
    c.validity.ensures c.walk.ensures.short c.walk.ensures.least c.walk.ensures.nowhere
