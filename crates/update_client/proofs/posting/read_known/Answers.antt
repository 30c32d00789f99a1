use Rattle.std.proofs.Common.{arith}
use Rattle.std.proofs.lemmas.Grind.{common_steps}
use Rattle.update_client.proofs.ReplyLemmas.{known_whole}
use Rattle.update_client.proofs.posting.read_known.Goals as goal

pub returns-clause-read : goal.returns-clause-read
returns-clause-read g c =
    let (came, long) = c.in_ok-read_rest.ensures.rest in
    known_whole c.args.limit _ _ c.args.waiting.now c.in_ok-body.body.items c.read_rest.new.body c.args.size c.min.result
    c.if-size-limit.false c.min.ensures c.in_ok-body.ensures.items came long

pub returns-in_err-read_rest-clause-read : goal.returns-in_err-read_rest-clause-read
returns-in_err-read_rest-clause-read g c = grind (arith, common_steps)
