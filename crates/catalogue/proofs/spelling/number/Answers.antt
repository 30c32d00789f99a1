use Rattle.std.proofs.Common.{◌∙◌}
use Rattle.std.proofs.lemmas.Bool.Decides.{nat_tests}
use Rattle.std.proofs.Common.{◌≢◌, arith, get_or}
use Rattle.std.proofs.lemmas.Str.Parse.{numerals_by_value, parse_plain, tells_all_ascii_digits}
use Rattle.catalogue.proofs.SpellingLemmas.{number_of-from_parse}
use Rattle.catalogue.proofs.spelling.number.Goals as goal

pub returns : goal.returns
returns c =
    let digits = c.args.digits.now in
    let no_plus : get_or digits 0 0 ≢ 43 = grind (arith, nat_tests) in
    c.ok.ensures.value
    ∙ number_of-from_parse digits _ (parse_plain (numerals_by_value _ tells_all_ascii_digits) 32 digits _ c.parse.ensures.value.0 no_plus)
