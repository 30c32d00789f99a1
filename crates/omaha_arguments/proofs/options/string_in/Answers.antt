use Rattle.std.proofs.Common.{ap, sym, ◌∙◌, List, ℕ, Option, []}
use Rattle.std.specs.Option.{option_map, unwrap_or}
use Rattle.clap.proofs.WalkLemmas.{first_value-rows}
use Rattle.clap.specs.Words.{found_of}
use Rattle.omaha_arguments.proofs.options.string_in.Goals as goal

pub returns-in-None : goal.returns-in-None
returns-in-None c =
    ap (λ (text : Option (List ℕ)). unwrap_or text [])
    (ap (option_map (λ s. s.now)) (sym c.in-None.is) ∙ c.get_str.ensures ∙ first_value-rows (found_of c.args.matches.now) c.args.id.now)

pub returns-in-Some : goal.returns-in-Some
returns-in-Some c =
    ap (λ (text : Option (List ℕ)). unwrap_or text [])
    (ap (option_map (λ s. s.now)) (sym c.in-Some.is) ∙ c.get_str.ensures ∙ first_value-rows (found_of c.args.matches.now) c.args.id.now)
