use Rattle.std.proofs.Common.{◌≡◌, ◌-◌, inl, inr, None, ap, ◌∙◌, arith}
use Rattle.std.proofs.lemmas.Bool.{cases_eq}
use Rattle.price_cert.specs.Rules.{broken_at}
use Rattle.price_cert.proofs.rules.first_wrong.Goals as goal

pub loop-from-preserved : goal.loop-from-preserved
loop-from-preserved c = λ k low within. elim (cases_eq k (c.loop-from.from - 1)) [
  | inl same ↦
      let here : broken_at c.args.graph.now c.args.rows.now (c.loop-from.from - 1) ≡ None = cc in
      ap (broken_at c.args.graph.now c.args.rows.now) same ∙ here
  | inr other ↦ c.loop-from.invariant k (omega arith) within
]
