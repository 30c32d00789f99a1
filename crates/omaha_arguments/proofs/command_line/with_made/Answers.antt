use Rattle.std.proofs.Common.{rules, ◌≡◌, true, ap, ap₂, ◌∙◌}
use Rattle.std.proofs.lemmas.Result.{IfOk-weaker}
use Rattle.clap.specs.Words.{App, app_of, with_subcommand}
use Rattle.omaha_arguments.proofs.CommandLemmas.{third_denies}
use Rattle.omaha_arguments.proofs.command_line.with_made.Goals as goal

pub returns-in-Ok : goal.returns-in-Ok
returns-in-Ok c app own plain is_app is_own =
    let program : app_of c.in-Ok.program ≡ app = search rules in
    let is_plain : (app_of c.args.command).top.is_plain ≡ true = ap (λ (a : App). a.top.is_plain) is_own ∙ plain in
    IfOk-weaker c.subcommand.result _ _
    (λ more adds. adds.shape (third_denies _ _ _ _ is_plain) ∙ ap₂ (λ (a o : App). with_subcommand a o.top) program is_own)
    c.subcommand.ensures
