use Rattle.std.proofs.Common.{Ok, Err, refl}
use Rattle.omaha_commands.proofs.judging.check_on.Goals as goal

pub returns-in-Ok : goal.returns-in-Ok
returns-in-Ok g c = record {
  read = Ok c.in-Ok.script;
  script = c.in-Ok.ensures.ok;
  follows = c.judge_stocked.ensures (g.I.ReadWhole.input c.read_checked.new.reader);
}

pub returns-in-Err : goal.returns-in-Err
returns-in-Err g c = record {
  read = Err c.in-Err.failure;
  script = c.in-Err.ensures.err;
  follows = (refl, refl);
}
