use Rattle.std.proofs.Common.{◌≡◌, ◌∙◌, ◌++◌, ℕ, List, ap, append_assoc, codes, decimal, sym}
use Rattle.std.proofs.lemmas.Result.{IfOk-weaker}
use Rattle.omaha_commands.specs.Asking.{edition_line}
use Rattle.omaha_commands.proofs.asking.line_of.Goals as goal

-- the parts of the line, one after the other
parts : ℕ → List ℕ → List ℕ
parts number to = codes "omaha: edition " ++ (decimal number ++ (codes " at " ++ (to ++ codes "\n")))

parts-line : (number : ℕ) (to : List ℕ) → parts number to ≡ edition_line number to
unfolding parts
parts-line number to =
    ap (λ (rest : List ℕ). codes "omaha: edition " ++ rest)
    (sym (append_assoc (decimal number) (codes " at ") (to ++ codes "\n")) ∙ sym (append_assoc (decimal number ++ codes " at ") to (codes "\n")))

pub returns : goal.returns
unfolding parts
returns c =
    IfOk-weaker c.format.result _ _
    (λ line is. is ∙ ap (parts c.args.number) c.as_str-at.ensures ∙ parts-line c.args.number c.args.to.now) c.format.ensures.ok
