-- The number that a string spells.
use Rattle.std.proofs.Common.{◌≡◌, ℕ, ◌<◌, ◌^◌, true, List, length, Result, Ok, Err, arith}
use Rattle.std.specs.Result.{OkIff, result_ok}
use Rattle.std.specs.Str.{all_ascii_digits}
use Rattle.std.specs.Str.Parse.{digits_value}
use Rattle.std.proofs.lemmas.Bool.Decides.{nat_tests}
use Rattle.omaha_arguments.specs.Options.{number_of}

-- the number that std's `parse` gives for a string without a leading `+`
pub number_of-from_parse :
    {E : Type 0} (digits : List ℕ) (parsed : Result ℕ E) →
    OkIff parsed ((all_ascii_digits digits ≡ true) × (0 < length digits) × (digits_value 10 digits < 2 ^ 64)) (digits_value 10 digits) →
    result_ok parsed ≡ number_of digits
number_of-from_parse digits (Ok number) fits = grind (arith, nat_tests)
number_of-from_parse digits (Err error) fails = grind (arith, nat_tests)
