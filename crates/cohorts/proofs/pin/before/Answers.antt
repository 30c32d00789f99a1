use Rattle.std.proofs.lemmas.Str.Pattern.{strip_suffix_char}
use Rattle.cohorts.proofs.PinLemmas.{before-found}
use Rattle.cohorts.proofs.pin.before.Goals as goal

pub returns : goal.returns
returns c =
    before-found c.args.end c.args.text.now c.strip_suffix.result
    (strip_suffix_char c.args.end c.args.text.now c.strip_suffix.result c.strip_suffix.ensures.cases c.requires)
