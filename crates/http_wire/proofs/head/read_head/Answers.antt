use Rattle.std.proofs.Common.{◌≤◌, length, subst, sym, refl, ◌∙◌, arith}
use Rattle.std.proofs.lemmas.Grind.{common_steps}
use Rattle.http_wire.proofs.HeadLemmas.{never_exceeds}
use Rattle.http_wire.proofs.head.read_head.Goals as goal

pub unreachable-requires : goal.unreachable-requires
unreachable-requires g c =
    let exceeds = rw c.in-Err-TooManyHeaders.field-0-is at c.in-Err-TooManyHeaders.ensures.too_many in
    never_exceeds c.bytes.result.now (length c.reads.fields) (c.reads.auto.fields ∙ c.requires)
    (subst (λ bytes. length bytes ≤ 16384) (sym c.bytes.ensures.value) c.bytes.ensures.bound) (exceeds refl)

pub returns-in-Ok-eq0-clause-came : goal.returns-in-Ok-eq0-clause-came
returns-in-Ok-eq0-clause-came g c = grind (arith, common_steps)

pub returns-in-Ok-eq0-clause-found : goal.returns-in-Ok-eq0-clause-found
returns-in-Ok-eq0-clause-found g c = grind (arith, common_steps)

pub reads-smaller : goal.reads-smaller
reads-smaller g c = grind (arith, common_steps)

pub reads-preserved : goal.reads-preserved
reads-preserved g c = grind (arith, common_steps)
