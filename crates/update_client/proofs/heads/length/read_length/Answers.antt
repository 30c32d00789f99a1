use Rattle.std.proofs.Common.{◌≡◌, get_or, ◌&&◌, arith, sym, ◌∙◌}
use Rattle.std.specs.Char.{is_ascii_digit, digit_value}
use Rattle.std.proofs.lemmas.Bool.Decides.{nat_tests}
use Rattle.std.proofs.lemmas.List.Folds.{list_all_more}
use Rattle.update_client.proofs.LengthLemmas.{min-digits}
use Rattle.update_client.proofs.heads.length.read_length.Goals as goal

pub loop-byte-preserved : goal.loop-byte-preserved
loop-byte-preserved c =
    let value = c.args.value.now in
    let at = c.loop-byte.byte-index in
    let is_digit = sym c.if-not-is_ascii_digit.ensures.value in
    let digit : c.from.result ≡ digit_value (get_or c.args.value.now c.loop-byte.byte-index 0) = grind (arith, nat_tests) in (
      list_all_more is_ascii_digit value at 0 c.loop-byte-test.true ∙ (λ k. c.loop-byte.invariant.0 k && is_digit k),
      c.min-number.ensures
          ∙ min-digits value at c.loop-byte.number c.from.result c.loop-byte-test.true digit c.loop-byte.invariant.1,
    )
