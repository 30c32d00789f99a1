use Rattle.std.proofs.Common.{ap, sym, ◌∙◌, ℕ, List, Option, Some, None}
use Rattle.std.specs.Option.{option_map, option_map_or}
use Rattle.clap.proofs.WalkLemmas.{first_value-rows}
use Rattle.clap.specs.Words.{found_of}
use Rattle.omaha_arguments.specs.ServeArguments.{limit_of}
use Rattle.omaha_arguments.proofs.serve_arguments.limit_in.Goals as goal

pub returns-in-None : goal.returns-in-None
returns-in-None c =
    let told = ap (option_map (λ s. s.now)) (sym c.in-None.is) ∙ c.get_str.ensures ∙ first_value-rows (found_of c.args.matches.now) c.args.id.now in
    ap (λ (text : Option (List ℕ)). option_map_or limit_of text (Some None)) told

pub returns-in-Some : goal.returns-in-Some
returns-in-Some c =
    let told = ap (option_map (λ s. s.now)) (sym c.in-Some.is) ∙ c.get_str.ensures ∙ first_value-rows (found_of c.args.matches.now) c.args.id.now in
    c.limit_of.ensures ∙ ap (λ (text : Option (List ℕ)). option_map_or limit_of text (Some None)) told
