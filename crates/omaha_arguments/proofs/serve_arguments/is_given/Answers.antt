use Rattle.std.proofs.Common.{ap, sym, ◌∙◌, ℕ, List, Option}
use Rattle.std.specs.Option.{is_some, option_map}
use Rattle.clap.proofs.WalkLemmas.{first_value-rows}
use Rattle.clap.specs.Words.{found_of}
use Rattle.omaha_arguments.proofs.serve_arguments.is_given.Goals as goal

pub returns-in-None : goal.returns-in-None
returns-in-None c =
    ap (λ (text : Option (List ℕ)). is_some text)
    (ap (option_map (λ s. s.now)) (sym c.in-None.is) ∙ c.get_str.ensures ∙ first_value-rows (found_of c.args.matches.now) c.args.id.now)

pub returns-in-Some : goal.returns-in-Some
returns-in-Some c =
    ap (λ (text : Option (List ℕ)). is_some text)
    (ap (option_map (λ s. s.now)) (sym c.in-Some.is) ∙ c.get_str.ensures ∙ first_value-rows (found_of c.args.matches.now) c.args.id.now)
