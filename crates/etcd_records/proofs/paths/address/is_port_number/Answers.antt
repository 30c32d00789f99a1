use Rattle.std.proofs.Common.{◌≡◌, get_or, ◌&&◌, arith, sym, ◌∙◌}
use Rattle.std.specs.Char.{is_ascii_digit, digit_value}
use Rattle.std.proofs.lemmas.Bool.Decides.{nat_tests}
use Rattle.std.proofs.lemmas.List.Folds.{list_all_more}
use Rattle.etcd_records.proofs.PortLemmas.{min-digits}
use Rattle.etcd_records.proofs.paths.address.is_port_number.Goals as goal

pub loop-digit-preserved : goal.loop-digit-preserved
loop-digit-preserved c =
    let value = c.args.digits.now in
    let at = c.loop-digit.digit-index in
    let is_digit = sym c.if-not-is_ascii_digit.ensures.value in
    let digit : c.from.result ≡ digit_value (get_or c.args.digits.now c.loop-digit.digit-index 0) = grind (arith, nat_tests) in (
      list_all_more is_ascii_digit value at 0 c.loop-digit-test.true ∙ (λ k. c.loop-digit.invariant.0 k && is_digit k),
      c.min-number.ensures
          ∙ min-digits value at c.loop-digit.number c.from.result c.loop-digit-test.true digit c.loop-digit.invariant.1,
    )
