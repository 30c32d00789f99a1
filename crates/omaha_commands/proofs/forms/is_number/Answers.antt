use Rattle.std.proofs.Common.{ap, sym}
use Rattle.std.specs.Option.{is_some}
use Rattle.omaha_commands.proofs.NumberLemmas.{number_of-not_utf8}
use Rattle.omaha_commands.proofs.forms.is_number.Goals as goal

pub returns-in-None : goal.returns-in-None
returns-in-None c = ap is_some (sym (number_of-not_utf8 c.args.digits.now (sym c.in-None.ensures.utf8)))
