use Rattle.http_desks.proofs.ReplyLemmas.{rest_answers}
use Rattle.http_desks.proofs.answering.answer.Goals as goal

pub returns-in-Ok-Sends-clause-answers : goal.returns-in-Ok-Sends-clause-answers
returns-in-Ok-Sends-clause-answers g c =
    let (fits, some, calls, head) = rw c.in-Ok-Sends.field-0-is at c.in-Ok-Sends.ensures.begins in
    rest_answers g.D.Desk.steps (g.D.Desk.content_type c.args.desk.now) c.args.request.now.body.now
    c.args.request.now.closes c.args.desk.now c.begin.new.desk
    (g.D.Desk.path c.args.desk.now) (g.Z.Clock.tells c.args.site.now) (g.Z.Packages.sizes c.args.site.now) (g.Z.Packages.reads c.args.site.now)
    c.args.request.now.method c.args.request.now.target.now c.in-Ok-Sends.name.now c.in-Ok-Sends.declared _ _ _ c.send_rest.result
    fits calls head c.send_rest.ensures.rests
