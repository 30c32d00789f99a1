use Rattle.access_logs.specs.Queues.{HaveEnded}
use Rattle.omaha_server.proofs.PageLemmas.{there-given}
use Rattle.omaha_server.proofs.jobs.finish_both.Goals as goal

pub finish_writing-requires-clause-ended : goal.finish_writing-requires-clause-ended
finish_writing-requires-clause-ended g c κs within =
    there-given (λ thread given. HaveEnded thread.began.value.opened.value.items given) c.args.ended.items
    c.by_page-here.result.1.items c.is_some.result c.args.file c.is_some.ensures c.by_page-here.ensures.file
    c.requires.there

pub finish_writing-requires-2-clause-ended : goal.finish_writing-requires-2-clause-ended
finish_writing-requires-2-clause-ended g c κs within = rw (c.by_page-here.ensures.errors, c.is_some.ensures) c.requires.here

pub returns : goal.returns
returns g c = record {
  written = rw (c.by_page-here.ensures.errors, c.is_some.ensures) at c.finish_writing-2.ensures.written;
}
