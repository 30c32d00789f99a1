use Rattle.std.proofs.Common.{ap, sym, ◌∙◌, ℕ, List, Option, Some}
use Rattle.std.specs.Option.{option_map, option_map_or}
use Rattle.clap.proofs.WalkLemmas.{first_value-rows}
use Rattle.clap.specs.Words.{found_of}
use Rattle.omaha_arguments.specs.Options.{number_of}
use Rattle.omaha_arguments.proofs.options.number_in.Goals as goal

pub returns-in-None : goal.returns-in-None
returns-in-None c =
    let told = ap (option_map (λ s. s.now)) (sym c.in-None.is) ∙ c.get_str.ensures ∙ first_value-rows (found_of c.args.matches.now) c.args.id.now in
    ap (λ (text : Option (List ℕ)). option_map_or number_of text (Some c.args.default)) told

pub returns-in-Some : goal.returns-in-Some
returns-in-Some c =
    let told = ap (option_map (λ s. s.now)) (sym c.in-Some.is) ∙ c.get_str.ensures ∙ first_value-rows (found_of c.args.matches.now) c.args.id.now in
    c.number_of.ensures ∙ ap (λ (text : Option (List ℕ)). option_map_or number_of text (Some c.args.default)) told
