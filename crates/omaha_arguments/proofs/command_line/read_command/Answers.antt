use Rattle.std.proofs.Common.{◌≡◌, IfOk, subst}
use Rattle.clap.specs.Words.{FailsBy, found_of, rows_of}
use Rattle.omaha_arguments.specs.Commands.{command_named, faults_named}
use Rattle.omaha_arguments.specs.declared.command_line.Name.{Name}
use Rattle.omaha_arguments.proofs.command_line.read_command.Goals as goal

pub returns-in-Once-clause-faults : goal.returns-in-Once-clause-faults
returns-in-Once-clause-faults c =
    subst (λ (n : Name). FailsBy (faults_named n c.args.name.now (rows_of (found_of c.args.matches.now))) c.read_once.result) c.in-Once.ensures
    c.read_once.ensures.faults

pub returns-in-Once-clause-command : goal.returns-in-Once-clause-command
returns-in-Once-clause-command c =
    subst (λ (n : Name). IfOk c.read_once.result (λ command. command ≡ command_named n c.args.name.now (rows_of (found_of c.args.matches.now)))) c.in-Once.ensures
    c.read_once.ensures.command

pub returns-in-Serve-clause-faults : goal.returns-in-Serve-clause-faults
returns-in-Serve-clause-faults c =
    subst (λ (n : Name). FailsBy (faults_named n c.args.name.now (rows_of (found_of c.args.matches.now))) c.read_serve.result) c.in-Serve.ensures
    c.read_serve.ensures.faults

pub returns-in-Serve-clause-command : goal.returns-in-Serve-clause-command
returns-in-Serve-clause-command c =
    subst (λ (n : Name). IfOk c.read_serve.result (λ command. command ≡ command_named n c.args.name.now (rows_of (found_of c.args.matches.now)))) c.in-Serve.ensures
    c.read_serve.ensures.command

pub returns-in-Publish-clause-faults : goal.returns-in-Publish-clause-faults
returns-in-Publish-clause-faults c =
    subst (λ (n : Name). FailsBy (faults_named n c.args.name.now (rows_of (found_of c.args.matches.now))) c.read_publication.result) c.in-Publish.ensures
    c.read_publication.ensures.faults

pub returns-in-Publish-clause-command : goal.returns-in-Publish-clause-command
returns-in-Publish-clause-command c =
    subst (λ (n : Name). IfOk c.read_publication.result (λ command. command ≡ command_named n c.args.name.now (rows_of (found_of c.args.matches.now)))) c.in-Publish.ensures
    c.read_publication.ensures.command

pub returns-in-Script-clause-faults : goal.returns-in-Script-clause-faults
returns-in-Script-clause-faults c =
    subst (λ (n : Name). FailsBy (faults_named n c.args.name.now (rows_of (found_of c.args.matches.now))) c.read_script.result) c.in-Script.ensures
    c.read_script.ensures.faults

pub returns-in-Script-clause-command : goal.returns-in-Script-clause-command
returns-in-Script-clause-command c =
    subst (λ (n : Name). IfOk c.read_script.result (λ command. command ≡ command_named n c.args.name.now (rows_of (found_of c.args.matches.now)))) c.in-Script.ensures
    c.read_script.ensures.command

pub returns-in-Raise-clause-faults : goal.returns-in-Raise-clause-faults
returns-in-Raise-clause-faults c =
    subst (λ (n : Name). FailsBy (faults_named n c.args.name.now (rows_of (found_of c.args.matches.now))) c.read_raise.result) c.in-Raise.ensures
    c.read_raise.ensures.faults

pub returns-in-Raise-clause-command : goal.returns-in-Raise-clause-command
returns-in-Raise-clause-command c =
    subst (λ (n : Name). IfOk c.read_raise.result (λ command. command ≡ command_named n c.args.name.now (rows_of (found_of c.args.matches.now)))) c.in-Raise.ensures
    c.read_raise.ensures.command

pub returns-in-Dump-clause-faults : goal.returns-in-Dump-clause-faults
returns-in-Dump-clause-faults c =
    subst (λ (n : Name). FailsBy (faults_named n c.args.name.now (rows_of (found_of c.args.matches.now))) c.read_dump.result) c.in-Dump.ensures
    c.read_dump.ensures.faults

pub returns-in-Dump-clause-command : goal.returns-in-Dump-clause-command
returns-in-Dump-clause-command c =
    subst (λ (n : Name). IfOk c.read_dump.result (λ command. command ≡ command_named n c.args.name.now (rows_of (found_of c.args.matches.now)))) c.in-Dump.ensures
    c.read_dump.ensures.command

pub returns-in-Status-clause-faults : goal.returns-in-Status-clause-faults
returns-in-Status-clause-faults c =
    subst (λ (n : Name). FailsBy (faults_named n c.args.name.now (rows_of (found_of c.args.matches.now))) c.read_status.result) c.in-Status.ensures
    c.read_status.ensures.faults

pub returns-in-Status-clause-command : goal.returns-in-Status-clause-command
returns-in-Status-clause-command c =
    subst (λ (n : Name). IfOk c.read_status.result (λ command. command ≡ command_named n c.args.name.now (rows_of (found_of c.args.matches.now)))) c.in-Status.ensures
    c.read_status.ensures.command

pub returns-in-Stop-clause-faults : goal.returns-in-Stop-clause-faults
returns-in-Stop-clause-faults c =
    subst (λ (n : Name). FailsBy (faults_named n c.args.name.now (rows_of (found_of c.args.matches.now))) c.read_stop.result) c.in-Stop.ensures
    c.read_stop.ensures.faults

pub returns-in-Stop-clause-command : goal.returns-in-Stop-clause-command
returns-in-Stop-clause-command c =
    subst (λ (n : Name). IfOk c.read_stop.result (λ command. command ≡ command_named n c.args.name.now (rows_of (found_of c.args.matches.now)))) c.in-Stop.ensures
    c.read_stop.ensures.command

pub returns-in-History-clause-faults : goal.returns-in-History-clause-faults
returns-in-History-clause-faults c =
    subst (λ (n : Name). FailsBy (faults_named n c.args.name.now (rows_of (found_of c.args.matches.now))) c.read_history.result) c.in-History.ensures
    c.read_history.ensures.faults

pub returns-in-History-clause-command : goal.returns-in-History-clause-command
returns-in-History-clause-command c =
    subst (λ (n : Name). IfOk c.read_history.result (λ command. command ≡ command_named n c.args.name.now (rows_of (found_of c.args.matches.now)))) c.in-History.ensures
    c.read_history.ensures.command

pub returns-in-Explain-clause-faults : goal.returns-in-Explain-clause-faults
returns-in-Explain-clause-faults c =
    subst (λ (n : Name). FailsBy (faults_named n c.args.name.now (rows_of (found_of c.args.matches.now))) c.read_code.result) c.in-Explain.ensures
    c.read_code.ensures.faults

pub returns-in-Explain-clause-command : goal.returns-in-Explain-clause-command
returns-in-Explain-clause-command c =
    subst (λ (n : Name). IfOk c.read_code.result (λ command. command ≡ command_named n c.args.name.now (rows_of (found_of c.args.matches.now)))) c.in-Explain.ensures
    c.read_code.ensures.command

pub returns-in-Walk-clause-faults : goal.returns-in-Walk-clause-faults
returns-in-Walk-clause-faults c =
    subst (λ (n : Name). FailsBy (faults_named n c.args.name.now (rows_of (found_of c.args.matches.now))) c.read_walk.result) c.in-Walk.ensures
    c.read_walk.ensures.faults

pub returns-in-Walk-clause-command : goal.returns-in-Walk-clause-command
returns-in-Walk-clause-command c =
    subst (λ (n : Name). IfOk c.read_walk.result (λ command. command ≡ command_named n c.args.name.now (rows_of (found_of c.args.matches.now)))) c.in-Walk.ensures
    c.read_walk.ensures.command

pub returns-in-Describe-clause-faults : goal.returns-in-Describe-clause-faults
returns-in-Describe-clause-faults c =
    subst (λ (n : Name). FailsBy (faults_named n c.args.name.now (rows_of (found_of c.args.matches.now))) c.read_paths.result) c.in-Describe.ensures
    c.read_paths.ensures.faults

pub returns-in-Describe-clause-command : goal.returns-in-Describe-clause-command
returns-in-Describe-clause-command c =
    subst (λ (n : Name). IfOk c.read_paths.result (λ command. command ≡ command_named n c.args.name.now (rows_of (found_of c.args.matches.now)))) c.in-Describe.ensures
    c.read_paths.ensures.command

pub returns-in-Check-clause-faults : goal.returns-in-Check-clause-faults
returns-in-Check-clause-faults c =
    subst (λ (n : Name). FailsBy (faults_named n c.args.name.now (rows_of (found_of c.args.matches.now))) c.read_check.result) c.in-Check.ensures
    c.read_check.ensures.faults

pub returns-in-Check-clause-command : goal.returns-in-Check-clause-command
returns-in-Check-clause-command c =
    subst (λ (n : Name). IfOk c.read_check.result (λ command. command ≡ command_named n c.args.name.now (rows_of (found_of c.args.matches.now)))) c.in-Check.ensures
    c.read_check.ensures.command

pub returns-in-Review-clause-faults : goal.returns-in-Review-clause-faults
returns-in-Review-clause-faults c =
    subst (λ (n : Name). FailsBy (faults_named n c.args.name.now (rows_of (found_of c.args.matches.now))) c.read_review.result) c.in-Review.ensures
    c.read_review.ensures.faults

pub returns-in-Review-clause-command : goal.returns-in-Review-clause-command
returns-in-Review-clause-command c =
    subst (λ (n : Name). IfOk c.read_review.result (λ command. command ≡ command_named n c.args.name.now (rows_of (found_of c.args.matches.now)))) c.in-Review.ensures
    c.read_review.ensures.command

pub returns-in-Graph-clause-faults : goal.returns-in-Graph-clause-faults
returns-in-Graph-clause-faults c =
    subst (λ (n : Name). FailsBy (faults_named n c.args.name.now (rows_of (found_of c.args.matches.now))) c.read_graph.result) c.in-Graph.ensures
    c.read_graph.ensures.faults

pub returns-in-Graph-clause-command : goal.returns-in-Graph-clause-command
returns-in-Graph-clause-command c =
    subst (λ (n : Name). IfOk c.read_graph.result (λ command. command ≡ command_named n c.args.name.now (rows_of (found_of c.args.matches.now)))) c.in-Graph.ensures
    c.read_graph.ensures.command

pub returns-in-Other-clause-faults : goal.returns-in-Other-clause-faults
returns-in-Other-clause-faults c =
    subst (λ (n : Name). FailsBy (faults_named n c.args.name.now (rows_of (found_of c.args.matches.now))) c.read_report.result) c.in-Other.ensures
    c.read_report.ensures.faults

pub returns-in-Other-clause-command : goal.returns-in-Other-clause-command
returns-in-Other-clause-command c =
    subst (λ (n : Name). IfOk c.read_report.result (λ command. command ≡ command_named n c.args.name.now (rows_of (found_of c.args.matches.now)))) c.in-Other.ensures
    c.read_report.ensures.command
