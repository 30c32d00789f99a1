use Rattle.std.proofs.Common.{arith, refl}
use Rattle.mirror_ledger.proofs.NamedLemmas.{AreTops-max_at, max_at-reached}
use Rattle.mirror_ledger.proofs.running.run_with_tills.Goals as goal

pub run_over-requires-clause-first : goal.run_over-requires-clause-first
run_over-requires-clause-first g c = λ κs outlives. record {
  same_name = refl;
  same_parts = refl;
  same_raising = refl;
  one_raises = c.new-blanks.ensures.raises.0;
  part_each = omega (arith, c.new-blanks.ensures.first, c.len.ensures);
  carried = refl;
  reached = max_at-reached (g.O.BudgetJob.raises c.args.own.now) c.args.mirrors.items 0 c.requires.bounded;
}

pub run_over-requires-clause-second : goal.run_over-requires-clause-second
run_over-requires-clause-second g c = λ κs outlives. record {
  same_name = refl;
  same_parts = refl;
  same_raising = refl;
  one_raises = c.new-blanks.ensures.raises.1;
  part_each = omega (arith, c.new-blanks.ensures.second, c.len.ensures);
  carried = refl;
  reached = max_at-reached (g.O.BudgetJob.raises c.args.own.now) c.args.mirrors.items 1 c.requires.bounded;
}

pub run_over-requires-clause-third : goal.run_over-requires-clause-third
run_over-requires-clause-third g c = λ κs outlives. record {
  same_name = refl;
  same_parts = refl;
  same_raising = refl;
  one_raises = c.new-blanks.ensures.raises.2;
  part_each = omega (arith, c.new-blanks.ensures.third, c.len.ensures);
  carried = refl;
  reached = max_at-reached (g.O.BudgetJob.raises c.args.own.now) c.args.mirrors.items 2 c.requires.bounded;
}

pub run_over-requires-clause-fourth : goal.run_over-requires-clause-fourth
run_over-requires-clause-fourth g c = λ κs outlives. record {
  same_name = refl;
  same_parts = refl;
  same_raising = refl;
  one_raises = c.new-blanks.ensures.raises.3;
  part_each = omega (arith, c.new-blanks.ensures.fourth, c.len.ensures);
  carried = refl;
  reached = max_at-reached (g.O.BudgetJob.raises c.args.own.now) c.args.mirrors.items 3 c.requires.bounded;
}

pub run_over-requires-clause-tops : goal.run_over-requires-clause-tops
run_over-requires-clause-tops g c = λ κs outlives. AreTops-max_at (g.O.BudgetJob.raises c.args.own.now) c.args.mirrors.items
