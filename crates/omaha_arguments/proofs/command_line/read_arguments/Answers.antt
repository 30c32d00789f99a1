use Rattle.std.proofs.Common.{map, string_bytes}
use Rattle.omaha_arguments.proofs.ErrorLemmas.{IsWhy-of_kind}
use Rattle.omaha_arguments.specs.Commands.{faults_of}
use Rattle.omaha_arguments.proofs.command_line.read_arguments.Goals as goal

pub returns-in-Err-clause-error : goal.returns-in-Err-clause-error
returns-in-Err-clause-error c =
    IsWhy-of_kind (faults_of (map string_bytes c.args.arguments.now)) c.in-Err.error c.argument_error.result c.in-Err.ensures.faults
    c.argument_error.ensures
