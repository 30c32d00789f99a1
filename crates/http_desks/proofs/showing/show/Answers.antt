use Rattle.std.proofs.Common.{refl, None, Some, Ok, Err}
use Rattle.http_desks.specs.Uses.{Paged}
use Rattle.http_desks.proofs.showing.show.Goals as goal

pub returns-in-Ok-None-clause-shown : goal.returns-in-Ok-None-clause-shown
returns-in-Ok-None-clause-shown g c = record {
  used = Paged c.args.path.now c.args.method (Ok None);
  fits = (refl, refl);
  calls = (c.page.new.self, rw c.in-Ok-None.field-0-is at c.in-Ok-None.ensures.steps, refl);
  writes = c.deny.ensures.sends;
}

pub returns-in-Ok-Some-clause-shown : goal.returns-in-Ok-Some-clause-shown
returns-in-Ok-Some-clause-shown g c = record {
  used = Paged c.args.path.now c.args.method (Ok (Some (c.in-Ok-Some.page.kind, c.in-Ok-Some.page.body.items)));
  fits = (refl, refl);
  calls = (c.page.new.self, rw c.in-Ok-Some.field-0-is at c.in-Ok-Some.ensures.steps, refl);
  writes = c.offer_page.ensures.sends;
}

pub returns-in-Ok-clause-shown : goal.returns-in-Ok-clause-shown
returns-in-Ok-clause-shown g c = record {
  used = Paged c.args.path.now c.args.method (Err c.in-Err.off);
  fits = (refl, refl);
  calls = (c.page.new.self, c.in-Err.ensures.steps, refl);
  writes = (refl, c.in-Ok.ensures.sends);
}

pub returns-in-Err-send_empty-clause-shown : goal.returns-in-Err-send_empty-clause-shown
returns-in-Err-send_empty-clause-shown g c = record {
  used = Paged c.args.path.now c.args.method (Err c.in-Err.off);
  fits = (refl, refl);
  calls = (c.page.new.self, c.in-Err.ensures.steps, refl);
  writes = c.in-Err-send_empty.ensures.sends;
}
