use Rattle.std.proofs.lemmas.Result.{err_from_is_err_and}
use Rattle.update_client.proofs.ReplyLemmas.{body_fails, reply_whole, start_fails}
use Rattle.update_client.proofs.posting.read_reply.Goals as goal

pub returns-in_err-start-clause-read : goal.returns-in_err-start-clause-read
returns-in_err-start-clause-read g c =
    let p = err_from_is_err_and c.from_residual.result c.from_residual.ensures.1 in
    rw (p.1, p.2) (start_fails c.args.limit _ _ c.read_head.new.held.items _ c.in_err-start.ensures.read)

pub returns-in_err-body-clause-read : goal.returns-in_err-body-clause-read
returns-in_err-body-clause-read g c =
    let (consumed, found) = c.in_ok-start.ensures.read in
    let p = err_from_is_err_and c.from_residual-in_err-body.result c.from_residual-in_err-body.ensures.1 in
    rw (p.1, p.2)
    (body_fails c.args.limit _ _ _ c.read_head.new.held.items c.in_ok-start.start _ consumed found c.in_err-body.ensures.read)

pub returns-clause-read : goal.returns-clause-read
returns-clause-read g c =
    let (consumed, found) = c.in_ok-start.ensures.read in
    reply_whole c.args.limit _ _ _ c.read_head.new.held.items c.in_ok-start.start c.in_ok-body.body consumed found c.in_ok-body.ensures.read
