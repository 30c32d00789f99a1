use Rattle.std.proofs.Common.{◌∙◌, ℕ, List, Option, Ok, ap, subst}
use Rattle.streams.specs.Streams.{Known}
use Rattle.failures.specs.Explanations.{explanation_of}
use Rattle.omaha_commands.specs.Explaining.{SaysOf}
use Rattle.profiles.specs.Printing.{Prints}
use Rattle.profiles.specs.Streams.{Streams}
use Rattle.omaha_commands.proofs.explaining.explain_one.Goals as goal

pub returns-in-Some : goal.returns-in-Some
returns-in-Some g c = λ (input : Known).
    let old : Streams = record { input = input; output = g.W.WriteWhole.output c.args.writer.now } in
    let new : Streams = record { input = input; output = g.W.WriteWhole.output c.print.new.writer } in
    let P : Option (List ℕ) → Type 0 = λ found. SaysOf found c.args.code.now old new c.print.result in
    let Q : List ℕ → Type 0 = λ text. Prints (Ok text) old new c.print.result in
    subst P (c.in-Some.ensures ∙ ap explanation_of c.as_str.ensures) (subst Q c.as_bytes.ensures.value (c.print.ensures input))
