use Rattle.std.proofs.Common.{◌∙◌, ◌++◌, List, ap, ap₂, append_assoc, codes, subst, sym, ℕ}
use Rattle.omaha_commands.specs.Operating.{Calls, max_line}
use Rattle.omaha_commands.proofs.operating.raise_on.Goals as goal

pub returns-in-Ok : goal.returns-in-Ok
returns-in-Ok g c =
    subst (λ (body : List ℕ). Calls (g.R.Connector.operated c.args.rt.now) c.args.shown max_line c.args.asked.now.to body (g.W.WriteWhole.output c.args.writer.now)
    (g.W.WriteWhole.output c.call_for_line.new.writer) c.call_for_line.result)
    (c.as_bytes-bytes.ensures.value
    ∙ c.as_str.ensures.value
    ∙ c.in-Ok.ensures.ok
    ∙ ap₂ (λ (name budget : List ℕ). codes "raise " ++ (name ++ (codes " " ++ budget))) c.as_str-name.ensures c.as_str-budget.ensures
    ∙ ap (λ (rest : List ℕ). codes "raise " ++ rest) (sym (append_assoc c.args.asked.now.name (codes " ") c.args.asked.now.budget)))
    c.call_for_line.ensures
