use Rattle.std.proofs.Common.{arith}
use Rattle.std.proofs.lemmas.Str.Pattern.{strip_suffix_char}
use Rattle.omaha_histories.proofs.ReturnLemmas.{stripped}
use Rattle.omaha_histories.proofs.restarts.listing.without_return.Goals as goal

pub returns-in-Some : goal.returns-in-Some
returns-in-Some c =
    rw c.in-Some.is at (stripped c.args.line.now c.strip_suffix.result
    (strip_suffix_char 13 c.args.line.now c.strip_suffix.result c.strip_suffix.ensures.cases (omega arith)))

pub returns-in-None : goal.returns-in-None
returns-in-None c =
    rw c.in-None.is at (stripped c.args.line.now c.strip_suffix.result
    (strip_suffix_char 13 c.args.line.now c.strip_suffix.result c.strip_suffix.ensures.cases (omega arith)))
