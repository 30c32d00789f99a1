-- The number of a port, which stops growing at 65536.
use Rattle.std.proofs.Common.{◌≡◌, ℕ, ◌+◌, ◌*◌, ◌<◌, List, length, get_or, take, min, arith}
use Rattle.std.specs.Char.{digit_value}
use Rattle.std.specs.Str.Parse.{digits_value}
use Rattle.std.proofs.lemmas.Int.Digits.{digits_value_more}

-- one digit on
pub min-digits :
    (value : List ℕ) (at number digit : ℕ) →
    at < length value →
    digit ≡ digit_value (get_or value at 0) →
    number ≡ min (digits_value 10 (take at value)) 65536 →
    min (number * 10 + digit) 65536 ≡ min (digits_value 10 (take (at + 1) value)) 65536
min-digits value at number digit inside is_digit kept =
    omega (arith, digits_value_more 10 value at inside)
