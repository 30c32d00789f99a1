use Rattle.std.proofs.Common.{Ok, Err, refl}
use Rattle.omaha_commands.proofs.operating.post_stocked.Goals as goal

pub returns-in-Ok : goal.returns-in-Ok
returns-in-Ok g c = record {
  stocked = Ok tt;
  between = g.W.WriteWhole.output c.stock_bytes.new.writer;
  is = c.in-Ok.ensures;
  posts = c.post.ensures;
}

pub returns-in-Err : goal.returns-in-Err
returns-in-Err g c = record {
  stocked = Err c.in-Err.failure;
  between = g.W.WriteWhole.output c.stock_bytes.new.writer;
  is = c.in-Err.ensures;
  posts = (refl, refl);
}
