use Rattle.std.proofs.Common.{ap, sym, ◌∙◌, ℕ, List, Option, None}
use Rattle.std.specs.Prelude.{codes}
use Rattle.std.specs.Option.{option_map, option_map_or}
use Rattle.clap.proofs.WalkLemmas.{first_value-rows}
use Rattle.clap.specs.Words.{found_of}
use Rattle.omaha_arguments.specs.HistoryPaths.{history_fault}
use Rattle.omaha_arguments.proofs.serve_arguments.history_fault_in.Goals as goal

pub returns-in-None : goal.returns-in-None
returns-in-None c =
    let told = ap (option_map (λ s. s.now)) (sym c.in-None.is) ∙ c.get_str.ensures ∙ first_value-rows (found_of c.args.matches.now) (codes "history") in
    ap (λ (text : Option (List ℕ)). option_map_or history_fault text None) told

pub returns-in-Some : goal.returns-in-Some
returns-in-Some c =
    let told = ap (option_map (λ s. s.now)) (sym c.in-Some.is) ∙ c.get_str.ensures ∙ first_value-rows (found_of c.args.matches.now) (codes "history") in
    c.history_fault.ensures ∙ ap (λ (text : Option (List ℕ)). option_map_or history_fault text None) told
