use Rattle.std.proofs.Common.{◌∙◌}
use Rattle.certificates.proofs.NumberLemmas.{value_of-parse}
use Rattle.certificates.proofs.form.value_of.Goals as goal

pub returns : goal.returns
returns c =
    c.ok.ensures.value ∙ value_of-parse c.args.digits.now c.parse.result c.parse.ensures.value.0 c.requires
