use Rattle.std.proofs.Common.{is_some, map}
use Rattle.http_ports.specs.Speech.{one_if}
use Rattle.omaha_server.proofs.PageLemmas.{written-over}
use Rattle.omaha_server.proofs.jobs.serve_press.Goals as goal

pub returns-in_ok-run-in-Ok-crew_of-clause-page : goal.returns-in_ok-run-in-Ok-crew_of-clause-page
returns-in_ok-run-in-Ok-crew_of-clause-page g c =
    let writings = c.in-Ok-crew_of.crew.writings in
    let made = c.in_ok-run-in-Ok-crew_of in
    written-over g.F.WriteWhole.output (λ writing. writing.page) (one_if (is_some c.args.setup.now.place.now.named))
    (map (λ ended. ended.sent) made.run'.ports.log) (is_some c.args.outlets.now.file) (is_some writings.file)
    c.args.outlets.now.errors writings.errors made.page c.in-Ok-crew_of.ensures.page c.in-Ok-crew_of.ensures.filed
    made.ensures.page
