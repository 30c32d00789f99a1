use Rattle.std.proofs.Common.{◌∙◌, subst}
use Rattle.http_memory.specs.Seats.{AreDone}
use Rattle.http_memory.proofs.CountLemmas.{accepted_in-done}
use Rattle.http_memory.proofs.scripts.script.ScriptPort.has_accepted_all.Goals as goal

pub returns : goal.returns
returns c = λ all.
    accepted_in-done c.args.self.now.seats.items (subst AreDone c.deref.ensures.value (c.all_done.ensures all))
    ∙ c.args.self.now.limited
