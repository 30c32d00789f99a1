use Rattle.std.proofs.Common.{map, string_bytes, sym, ◌∙◌}
use Rattle.clap.specs.Words.{app_of, found_of, rows_of, subcommand_rows_of}
use Rattle.omaha_arguments.proofs.CommandLemmas.{invocation_by_options, fails_by_clap, fails_by_options, named_as, named_by_name, no_faults, without_command}
use Rattle.omaha_arguments.proofs.command_line.parse.Goals as goal

pub returns-in_err-matches-clause-faults : goal.returns-in_err-matches-clause-faults
returns-in_err-matches-clause-faults c =
    fails_by_clap (app_of c.in_ok-omaha_command.field-0) (map string_bytes c.args.arguments.now) c.from_residual-in_err-matches.result c.in_err-matches.field-0.0
    c.in_ok-omaha_command.ensures c.in_err-matches.ensures.kinds c.from_residual-in_err-matches.ensures.1

pub returns-in-None-clause-faults : goal.returns-in-None-clause-faults
returns-in-None-clause-faults c =
    no_faults (app_of c.in_ok-omaha_command.field-0) (map string_bytes c.args.arguments.now) (subcommand_rows_of c.in_ok-matches.matches)
    c.in_ok-omaha_command.ensures c.in_ok-matches.ensures.kinds (λ simple. (c.in_ok-matches.ensures.matches simple).1)
    (c.in-None.ensures.name ∙ sym (named_by_name c.in_ok-matches.matches))

pub returns-in-None-clause-invocation : goal.returns-in-None-clause-invocation
returns-in-None-clause-invocation c =
    without_command (app_of c.in_ok-omaha_command.field-0) (map string_bytes c.args.arguments.now) (subcommand_rows_of c.in_ok-matches.matches)
    c.in_ok-omaha_command.ensures (λ simple. (c.in_ok-matches.ensures.matches simple).1)
    (c.in-None.ensures.name ∙ sym (named_by_name c.in_ok-matches.matches))

pub returns-clause-faults : goal.returns-clause-faults
returns-clause-faults c =
    let name = c.in-Some.name.now in
    let rows = rows_of (found_of c.in-Some.options.now) in
    fails_by_options (app_of c.in_ok-omaha_command.field-0) (map string_bytes c.args.arguments.now) name rows c.read_invocation.result (subcommand_rows_of c.in_ok-matches.matches)
    c.in_ok-omaha_command.ensures c.in_ok-matches.ensures.kinds (λ simple. (c.in_ok-matches.ensures.matches simple).1)
    (named_as name rows (subcommand_rows_of c.in_ok-matches.matches) (c.in-Some.ensures.name ∙ sym (named_by_name c.in_ok-matches.matches)) c.in-Some.ensures.rows)
    c.read_invocation.ensures.faults

pub returns-clause-invocation : goal.returns-clause-invocation
returns-clause-invocation c =
    let name = c.in-Some.name.now in
    let rows = rows_of (found_of c.in-Some.options.now) in
    invocation_by_options (app_of c.in_ok-omaha_command.field-0) (map string_bytes c.args.arguments.now) name rows c.read_invocation.result (subcommand_rows_of c.in_ok-matches.matches)
    c.in_ok-omaha_command.ensures (λ simple. (c.in_ok-matches.ensures.matches simple).1)
    (named_as name rows (subcommand_rows_of c.in_ok-matches.matches) (c.in-Some.ensures.name ∙ sym (named_by_name c.in_ok-matches.matches)) c.in-Some.ensures.rows)
    c.read_invocation.ensures.invocation
