use Rattle.std.proofs.Common.{◌∙◌, IfSome, List, Option, string_bytes, subst, sym, ℕ}
use Rattle.advice.specs.Replies.{IsLineSaid, notice_in}
use Rattle.advice.specs.declared.documents.Notice.{Notice}
use Rattle.advice.proofs.replied.reply_advice.Goals as goal

pub returns-in-Ok-Some : goal.returns-in-Ok-Some
returns-in-Ok-Some g c =
    let files = g.R.Disk.file_at c.args.rt.now in
    subst (λ (line : List ℕ). IfSome c.notice_said.result (λ said. IsLineSaid files c.args.command.now line (notice_in line) (string_bytes said)))
    c.line_in-line.ensures
    (subst (λ (it : Option Notice). IfSome c.notice_said.result (λ said. IsLineSaid files c.args.command.now c.line_in-line.result.now it (string_bytes said)))
    (sym c.in-Ok-Some.field-0-is ∙ c.in-Ok-Some.ensures) c.notice_said.ensures)

pub returns-in-Ok-None : goal.returns-in-Ok-None
returns-in-Ok-None g c =
    let files = g.R.Disk.file_at c.args.rt.now in
    subst (λ (line : List ℕ). IfSome c.line_advice.result (λ said. IsLineSaid files c.args.command.now line (notice_in line) (string_bytes said)))
    c.line_in-line.ensures
    (subst (λ (it : Option Notice). IfSome c.line_advice.result (λ said. IsLineSaid files c.args.command.now c.line_in-line.result.now it (string_bytes said)))
    (sym c.in-Ok-None.field-0-is ∙ c.in-Ok-None.ensures) c.line_advice.ensures)
