use Rattle.std.proofs.Common.{refl}
use Rattle.omaha_arguments.proofs.command_line.making_omaha.Goals as goal

pub returns : goal.returns
returns c =
    c.with_command.ensures _ _ refl
    (c.with_command-program-16.ensures _ _ refl
    (c.with_command-program-15.ensures _ _ refl
    (c.with_command-program-14.ensures _ _ refl
    (c.with_command-program-13.ensures _ _ refl
    (c.with_command-program-12.ensures _ _ refl
    (c.with_command-program-11.ensures _ _ refl
    (c.with_command-program-10.ensures _ _ refl
    (c.with_command-program-9.ensures _ _ refl
    (c.with_command-program-8.ensures _ _ refl
    (c.with_command-program-7.ensures _ _ refl
    (c.with_command-program-6.ensures _ _ refl
    (c.with_command-program-5.ensures _ _ refl
    (c.with_command-program-4.ensures _ _ refl
    (c.with_command-program-3.ensures _ _ refl
    (c.with_command-program-2.ensures _ _ refl
    (c.with_command-program.ensures _ _ refl c.plain_command-program.ensures c.serve_command.ensures)
    c.publish_command.ensures)
    c.script_command.ensures)
    c.raise_command.ensures)
    c.dump_command.ensures)
    c.status_command.ensures)
    c.stop_command.ensures)
    c.history_command.ensures)
    c.check_command.ensures)
    c.review_command.ensures)
    c.graph_command.ensures)
    c.walk_command.ensures)
    c.describe_command.ensures)
    c.certify_command.ensures)
    c.verify_command.ensures)
    c.explain_command.ensures)
    c.once_command.ensures
