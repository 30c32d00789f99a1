use Rattle.std.proofs.Common.{Ok, Err, inl, refl, subst, ap, ◌∙◌}
use Rattle.std.proofs.lemmas.Result.{err_from_is_err_and}
use Rattle.update_client.specs.Installed.{Installed}
use Rattle.update_client.specs.Walking.{IsWalkOver}
use Rattle.failures.specs.declared.failure.Failure.TheVariants as failure
use Rattle.omaha_commands.proofs.walking.walk_on.Goals as goal

pub returns-in_err-line : goal.returns-in_err-line
returns-in_err-line g c =
    let p = err_from_is_err_and c.from_residual-in_err-line.result c.from_residual-in_err-line.ensures.1 in
    let P : Installed → Type 0 = λ client. IsWalkOver (g.R.Connector.replies c.args.rt.now c.args.asked.now.to) client c.walk_app_at.new.client
    (g.W.WriteWhole.output c.args.writer.now) (g.W.WriteWhole.output c.walk_app_at.new.out) (Ok c.in_ok-walk.walk) in
    λ input. inl (record {
      end = c.walk_app_at.new.client;
      walked = Ok c.in_ok-walk.walk;
      between = g.W.WriteWhole.output c.walk_app_at.new.out;
      line = Err failure.Memory;
      walks = subst P c.in_ok-client.ensures (rw c.as_str.ensures at c.in_ok-walk.ensures);
      last = refl;
      printed = (p.1 ∙ ap Err p.2, refl);
    })

pub returns : goal.returns
returns g c =
    let P : Installed → Type 0 = λ client. IsWalkOver (g.R.Connector.replies c.args.rt.now c.args.asked.now.to) client c.walk_app_at.new.client
    (g.W.WriteWhole.output c.args.writer.now) (g.W.WriteWhole.output c.walk_app_at.new.out) (Ok c.in_ok-walk.walk) in
    λ input. inl (record {
      end = c.walk_app_at.new.client;
      walked = Ok c.in_ok-walk.walk;
      between = g.W.WriteWhole.output c.walk_app_at.new.out;
      line = Ok c.as_bytes.result.now;
      walks = subst P c.in_ok-client.ensures (rw c.as_str.ensures at c.in_ok-walk.ensures);
      last = c.as_bytes.ensures.value ∙ c.in_ok-line.ensures;
      printed = c.print.ensures input;
    })
