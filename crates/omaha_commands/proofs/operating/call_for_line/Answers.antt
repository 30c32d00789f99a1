use Rattle.std.proofs.Common.{subst}
use Rattle.update_client.specs.declared.walk_at.Limits.{Limits}
use Rattle.omaha_commands.specs.Operating.{Calls}
use Rattle.omaha_commands.proofs.operating.call_for_line.Goals as goal

pub returns : goal.returns
returns g c =
    subst (λ (l : Limits). Calls (g.R.Connector.operated c.args.rt.now) c.args.shown l.reply c.args.to.now c.args.body.now
    (g.W.WriteWhole.output c.args.writer.now) (g.W.WriteWhole.output c.call.new.writer) c.call.result)
    c.line_limits.ensures c.call.ensures
