use Rattle.update_client.proofs.ReplyLemmas.{posted_within}
use Rattle.update_client.proofs.connecting.post_on.Goals as goal

pub returns : goal.returns
returns g c =
    posted_within c.args.limit (g.S.Read.remaining c.new-source.result.reader)
    (g.S.Read.remaining c.post_over.new.source.reader) c.new-source.result.failures c.post_over.new.source.failures
    c.post_over.result c.post_over.ensures.awaited
