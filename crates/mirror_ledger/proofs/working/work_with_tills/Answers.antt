use Rattle.std.proofs.Common.{arith, false, refl}
use Rattle.mirror_ledger.proofs.NamedLemmas.{max_at-reached}
use Rattle.mirror_ledger.proofs.working.work_with_tills.Goals as goal

pub work_over-requires-clause-first : goal.work_over-requires-clause-first
work_over-requires-clause-first g c = λ κs outlives. record {
  same_name = refl;
  same_parts = refl;
  same_raising = refl;
  one_raises = c.new-blanks.ensures.raises.0;
  part_each = omega (arith, c.new-blanks.ensures.first);
  carried = refl;
  reached = max_at-reached false c.args.mirrors.items 0 c.requires.bounded;
}

pub work_over-requires-clause-second : goal.work_over-requires-clause-second
work_over-requires-clause-second g c = λ κs outlives. record {
  same_name = refl;
  same_parts = refl;
  same_raising = refl;
  one_raises = c.new-blanks.ensures.raises.1;
  part_each = omega (arith, c.new-blanks.ensures.second);
  carried = refl;
  reached = max_at-reached false c.args.mirrors.items 1 c.requires.bounded;
}

pub work_over-requires-clause-third : goal.work_over-requires-clause-third
work_over-requires-clause-third g c = λ κs outlives. record {
  same_name = refl;
  same_parts = refl;
  same_raising = refl;
  one_raises = c.new-blanks.ensures.raises.2;
  part_each = omega (arith, c.new-blanks.ensures.third);
  carried = refl;
  reached = max_at-reached false c.args.mirrors.items 2 c.requires.bounded;
}

pub work_over-requires-clause-fourth : goal.work_over-requires-clause-fourth
work_over-requires-clause-fourth g c = λ κs outlives. record {
  same_name = refl;
  same_parts = refl;
  same_raising = refl;
  one_raises = c.new-blanks.ensures.raises.3;
  part_each = omega (arith, c.new-blanks.ensures.fourth);
  carried = refl;
  reached = max_at-reached false c.args.mirrors.items 3 c.requires.bounded;
}
