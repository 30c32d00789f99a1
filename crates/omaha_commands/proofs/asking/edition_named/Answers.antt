use Rattle.std.proofs.Common.{◌∙◌, ap, sym}
use Rattle.omaha_commands.specs.Asking.{number_by}
use Rattle.omaha_commands.proofs.NumberLemmas.{number_of-not_utf8}
use Rattle.omaha_commands.proofs.asking.edition_named.Goals as goal

pub returns-in-None-as_string : goal.returns-in-None-as_string
returns-in-None-as_string c =
    sym (ap number_by (sym c.in-Some.ensures) ∙ number_of-not_utf8 c.in-Some.digits.now (sym c.in-None-as_string.ensures.utf8))
