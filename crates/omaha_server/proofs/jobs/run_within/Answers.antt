use Rattle.std.proofs.Common.{◌≡◌, is_some, map, option_map, refl}
use Rattle.std.proofs.lemmas.Result.{err_from_is_err_and}
use Rattle.http_ports.specs.Speech.{one_if}
use Rattle.server_ports.specs.Logging.{senders_of, unless}
use Rattle.omaha_server.proofs.PageLemmas.{ended-there, here-given, page-written, unless-same}
use Rattle.omaha_server.proofs.jobs.run_within.Goals as goal

pub returns-in_err-run-clause-err : goal.returns-in_err-run-clause-err
returns-in_err-run-clause-err g c =
    let p = err_from_is_err_and c.from_residual-in_err-run.result c.from_residual-in_err-run.ensures.1 in
    rw (p.1, p.2) c.in_err-run.ensures.err

pub finish_both-requires-clause-there : goal.finish_both-requires-clause-there
finish_both-requires-clause-there g c κs within =
    ended-there (λ writing. writing.opened.value.items) (λ thread. thread.began.value) 0
    (senders_of (map (λ job. job.lines) c.args.jobs.items) c.args.own.now.lines) c.in_ok-run.run'.ports.log c.in_ok-run.senders.items
    c.in_ok-run.ensures.same c.in_ok-run.ensures.senders c.args.writings.file c.in_ok-errors.file
    c.in_ok-errors.ensures.file c.requires.opened.there

pub finish_both-requires-clause-here : goal.finish_both-requires-clause-here
finish_both-requires-clause-here g c κs within =
    let log = c.in_ok-run.run'.ports.log in
    let senders = senders_of (map (λ job. job.lines) c.args.jobs.items) c.args.own.now.lines in
    let threads = c.in_ok-errors in
    let filed = is_some (option_map (λ writing. writing.opened.value.items) c.args.writings.file) in
    let given = unless (is_some threads.file) c.in_ok-run.senders.items in
    ended-there (λ writing. writing.opened.value.items) (λ thread. thread.began.value) (one_if (is_some c.args.setup.now.place.now.named))
    (unless filed senders) (unless filed log) given (unless-same filed senders log c.in_ok-run.ensures.same)
    (here-given (λ writing thread. thread.began.value ≡ writing) (λ writing. writing.opened.value.items) log c.in_ok-run.senders.items
    given (is_some threads.file) c.args.writings.file threads.file c.in_ok-errors.ensures.file refl c.in_ok-run.ensures.senders refl)
    c.args.writings.errors threads.errors c.in_ok-errors.ensures.errors c.requires.opened.here

pub returns-clause-page : goal.returns-clause-page
returns-clause-page g c =
    let senders = senders_of (map (λ job. job.lines) c.args.jobs.items) c.args.own.now.lines in
    let threads = c.in_ok-errors in
    page-written g.F.WriteWhole.output (λ writing. writing.opened.value.items) (λ writing. writing.opened.value.items)
    (λ thread. thread.began.value) (λ writing. writing.page) (λ writing thread. thread.began.value ≡ writing)
    (one_if (is_some c.args.setup.now.place.now.named)) senders c.in_ok-run.run'.ports.log c.in_ok-run.senders.items
    (unless (is_some threads.file) c.in_ok-run.senders.items) (is_some threads.file) c.args.writings.file threads.file
    c.in_ok-errors.ensures.file refl c.in_ok-run.ensures.senders refl c.in_ok-run.ensures.same c.args.writings.errors threads.errors
    c.finish_both.result c.in_ok-errors.ensures.errors c.requires.opened.here c.finish_both.ensures.written
