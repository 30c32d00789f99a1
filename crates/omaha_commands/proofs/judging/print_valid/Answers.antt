use Rattle.std.proofs.Common.{◌∙◌, ℕ, List, Ok, inl, inr, refl, subst}
use Rattle.streams.specs.Streams.{Known}
use Rattle.profiles.specs.Printing.{Prints}
use Rattle.profiles.specs.Streams.{Streams}
use Rattle.omaha_commands.proofs.judging.print_valid.Goals as goal

pub returns-in-Ok : goal.returns-in-Ok
returns-in-Ok g c = λ (input : Known).
    let old : Streams = record { input = input; output = g.W.WriteWhole.output c.args.writer.now } in
    let new : Streams = record { input = input; output = g.W.WriteWhole.output c.print.new.writer } in
    let P : List ℕ → Type 0 = λ text. Prints (Ok text) old new c.print.result in
    inr (subst P (c.as_bytes.ensures.value ∙ c.in-Ok.ensures) (c.print.ensures input))

pub returns-in-Err : goal.returns-in-Err
returns-in-Err g c = λ (input : Known). inl (refl, refl)
