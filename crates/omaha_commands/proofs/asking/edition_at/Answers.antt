use Rattle.std.proofs.Common.{◌∙◌, ap, sym}
use Rattle.omaha_commands.specs.Asking.{edition_named}
use Rattle.omaha_commands.proofs.asking.edition_at.Goals as goal

pub returns-in-Some-clause-ok : goal.returns-in-Some-clause-ok
returns-in-Some-clause-ok g c =
    (c.in-Ok.reply, c.in-Ok.ensures.ok, sym (c.in-Some.ensures ∙ ap edition_named c.as_slice.ensures.value))
