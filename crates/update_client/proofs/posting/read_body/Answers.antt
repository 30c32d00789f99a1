use Rattle.std.proofs.Common.{arith}
use Rattle.std.proofs.lemmas.Grind.{common_steps}
use Rattle.update_client.proofs.ReplyLemmas.{chunked_body}
use Rattle.update_client.proofs.posting.read_body.Goals as goal

pub returns-in-Chunked-clause-read : goal.returns-in-Chunked-clause-read
returns-in-Chunked-clause-read g c =
    rw c.in-Chunked.is (chunked_body c.args.limit _ _ _ c.read_chunked.result c.read_chunked.ensures.read)

pub returns-in-Known-clause-read : goal.returns-in-Known-clause-read
returns-in-Known-clause-read g c = grind (arith, common_steps)
