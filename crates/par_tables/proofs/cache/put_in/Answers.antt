use Rattle.par_tables.proofs.CacheLemmas.{All-put}
use Rattle.par_tables.proofs.cache.put_in.Goals as goal

pub returns-in-Ok-clause-kept : goal.returns-in-Ok-clause-kept
returns-in-Ok-clause-kept c =
    All-put _ c.args.entries.now c.put.new.self c.key-key.result c.args.table c.in-Ok.ensures.entries
