use Rattle.std.proofs.Common.{◌∙◌, ◌≢◌, arith, get_or}
use Rattle.std.proofs.lemmas.Bool.Decides.{nat_tests}
use Rattle.std.proofs.lemmas.Str.Parse.{numerals_by_value, parse_plain, tells_all_ascii_digits}
use Rattle.etcd_records.proofs.HeaderLemmas.{number_of-from_parse}
use Rattle.etcd_records.proofs.headers.number_of.Goals as goal

pub returns : goal.returns
returns c =
    let text = c.args.text.now in
    let no_plus : get_or text 0 0 ≢ 43 = grind (arith, nat_tests) in
    c.ok.ensures.value
    ∙ number_of-from_parse text _ (parse_plain (numerals_by_value _ tells_all_ascii_digits) 64 text _ c.parse.ensures.value.0 no_plus)
