use Rattle.std.proofs.Common.{Ok, Err, refl}
use Rattle.streams.specs.Streams.{Known}
use Rattle.omaha_commands.proofs.judging.judge_stocked.Goals as goal

pub returns-in-Ok : goal.returns-in-Ok
returns-in-Ok g c = λ (input : Known). record {
  stocked = Ok tt;
  between = g.W.WriteWhole.output c.stock.new.writer;
  is = rw c.edits.ensures at c.in-Ok.ensures;
  judged = c.print_judgement.ensures input;
}

pub returns-in-Err : goal.returns-in-Err
returns-in-Err g c = λ (input : Known). record {
  stocked = Err c.in-Err.failure;
  between = g.W.WriteWhole.output c.stock.new.writer;
  is = rw c.edits.ensures at c.in-Err.ensures;
  judged = (refl, refl);
}
