use Rattle.omaha_cli.proofs.EndingLemmas.{Usage-two}
use Rattle.omaha_cli.proofs.running.run.Goals as goal

pub returns-clause-untouched : goal.returns-clause-untouched
returns-clause-untouched g c two =
    c.carry_out-ended.ensures.untouched
    (Usage-two c.carry_out-ended.result.ending c.status.result c.code.result c.code.ensures c.status.ensures two)
