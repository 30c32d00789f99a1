use Rattle.std.proofs.Common.{◌≡◌, ◌∙◌, []}
use Rattle.std.proofs.lemmas.List.{length-map}
use Rattle.std.proofs.lemmas.List.Elements.{All-map}
use Rattle.std.proofs.lemmas.Slice.Zip.{AllZip-long}
use Rattle.rtrb.specs.Ring.{received}
use Rattle.access_logs.specs.Queues.{AreEnds}
use Rattle.access_logs.proofs.queues.opening.open_log.Goals as goal

pub returns-clause-unread : goal.returns-clause-unread
returns-clause-unread c = All-map (λ xs. xs ≡ []) received c.in_ok-senders.rings.items c.in_ok-senders.ensures.unread

pub returns-clause-receives : goal.returns-clause-receives
returns-clause-receives c =
    let made = c.in_ok-senders in
    length-map made.rings.items received
    ∙ AllZip-long (λ sender end. AreEnds sender.end end) made.senders.items made.rings.items made.ensures.ends
    ∙ made.ensures.many
