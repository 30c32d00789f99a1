use Rattle.std.proofs.Common.{rules, ap, ◌∙◌, ◌≡◌}
use Rattle.std.proofs.lemmas.Result.{IfOk-weaker}
use Rattle.clap.specs.Words.{App, app_of, rule_of, with_rule}
use Rattle.omaha_arguments.proofs.options.with_arg.Goals as goal

pub returns-in-Ok : goal.returns-in-Ok
returns-in-Ok c app local made =
    let before : app_of c.in-Ok.command ≡ app = search rules in
    IfOk-weaker c.arg.result _ _ (λ more adds. adds.shape local ∙ ap (λ (a : App). with_rule a (rule_of c.args.argument)) before) c.arg.ensures
