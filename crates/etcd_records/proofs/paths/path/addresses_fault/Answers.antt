use Rattle.std.proofs.Common.{◌∙◌, sym, true, false, arith, rules}
use Rattle.etcd_records.proofs.CommaLemmas.{last_fault, next_fault, seventeenth_fault}
use Rattle.etcd_records.proofs.paths.path.addresses_fault.Goals as goal

pub returns-then-is_address : goal.returns-then-is_address
returns-then-is_address c =
    sym (c.loop-number.invariant.1 ∙ last_fault c.loop-number.number c.loop-number.rest.now true c.in_default.ensures (omega (arith, c.loop-number-test.true)) (sym c.is_address.ensures ∙ c.if-is_address.true))

pub returns-else-is_address : goal.returns-else-is_address
returns-else-is_address c =
    sym (c.loop-number.invariant.1 ∙ last_fault c.loop-number.number c.loop-number.rest.now false c.in_default.ensures (omega (arith, c.loop-number-test.true)) (sym c.is_address.ensures ∙ c.if-is_address.false))

pub returns-then-not-is_address : goal.returns-then-not-is_address
returns-then-not-is_address c =
    sym (c.loop-number.invariant.1 ∙ next_fault c.loop-number.number c.loop-number.rest.now c.in-Some.first.now c.in-Some.others.now false c.in-Some.ensures (omega (arith, c.loop-number-test.true)) (sym c.is_address-in-loop-number.ensures ∙ c.if-not-is_address.true))

pub loop-number-preserved : goal.loop-number-preserved
loop-number-preserved c =
    (search rules, c.loop-number.invariant.1 ∙ next_fault c.loop-number.number c.loop-number.rest.now c.in-Some.first.now c.in-Some.others.now true c.in-Some.ensures (omega (arith, c.loop-number-test.true)) (sym c.is_address-in-loop-number.ensures ∙ c.if-not-is_address.false))

pub returns : goal.returns
returns c =
    sym (c.loop-number.invariant.1 ∙ seventeenth_fault c.loop-number.number c.loop-number.rest.now (omega (arith, c.loop-number-test.false)))
