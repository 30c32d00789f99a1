use Rattle.std.proofs.Common.{◌∙◌}
use Rattle.http_memory.proofs.CountLemmas.{accepted_in-done}
use Rattle.http_memory.proofs.scripts.script.ScriptPort.wait.Goals as goal

pub returns-in_default-clause-over : goal.returns-in_default-clause-over
returns-in_default-clause-over c = λ over. (
  c.in_default.ensures.done,
  accepted_in-done c.next_report.new.self.seats.items c.in_default.ensures.done ∙ c.next_report.new.self.limited,
)
