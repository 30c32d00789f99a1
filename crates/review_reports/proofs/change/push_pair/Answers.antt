use Rattle.std.proofs.Common.{arith}
use Rattle.std.proofs.lemmas.Grind.{common_steps}
use Rattle.review_reports.proofs.ChangeLemmas.{none-there, without-after, without-before}
use Rattle.review_reports.proofs.change.push_pair.Goals as goal

pub returns-in_default : goal.returns-in_default
returns-in_default c =
    without-after c.args.before.now c.args.after.now c.args.old.now c.args.new.now c.args.changes.now.items
    (none-there c.get-other.result c.apps-2.result.now c.args.after.now c.args.new.now.key.app c.get-other.ensures.lookup.0 c.in_default.is-1
    c.apps-2.ensures)

pub returns-in_default-2 : goal.returns-in_default-2
returns-in_default-2 c =
    without-before c.args.before.now c.args.after.now c.args.old.now c.args.new.now c.args.changes.now.items
    (none-there c.get-one.result c.apps.result.now c.args.before.now c.args.old.now.key.app c.get-one.ensures.lookup.0 c.in_default.is-0
    c.apps.ensures)

pub push_changes-requires : goal.push_changes-requires
push_changes-requires c = grind (arith, common_steps)
