use Rattle.std.proofs.Common.{rules, ◌≡◌}
use Rattle.clap.specs.Words.{app_of}
use Rattle.omaha_arguments.specs.Options.{IsMade, with_verbose}
use Rattle.omaha_arguments.proofs.command_line.with_command.Goals as goal

pub returns-in-Ok : goal.returns-in-Ok
returns-in-Ok c app own plain is_app is_own =
    let made : IsMade (with_verbose own) c.with_verbose.result.made = c.with_verbose.ensures own is_own in
    let command : app_of c.in-Ok.command ≡ with_verbose own = search rules in
    c.with_made.ensures app (with_verbose own) plain is_app command
