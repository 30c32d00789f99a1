use Rattle.std.proofs.Common.{ap, sym, ◌∙◌, ℕ, List, Option, false}
use Rattle.std.specs.Prelude.{codes}
use Rattle.std.specs.Option.{option_map, option_map_or}
use Rattle.clap.proofs.WalkLemmas.{first_value-rows}
use Rattle.clap.specs.Words.{found_of}
use Rattle.etcd_records.specs.Paths.{is_etcd_path}
use Rattle.omaha_arguments.proofs.serve_arguments.is_shared.Goals as goal

pub returns-in-None : goal.returns-in-None
returns-in-None c =
    let told = ap (option_map (λ s. s.now)) (sym c.in-None.is) ∙ c.get_str.ensures ∙ first_value-rows (found_of c.args.matches.now) (codes "history") in
    ap (λ (text : Option (List ℕ)). option_map_or is_etcd_path text false) told

pub returns-in-Some : goal.returns-in-Some
returns-in-Some c =
    let told = ap (option_map (λ s. s.now)) (sym c.in-Some.is) ∙ c.get_str.ensures ∙ first_value-rows (found_of c.args.matches.now) (codes "history") in
    c.is_etcd_path.ensures ∙ ap (λ (text : Option (List ℕ)). option_map_or is_etcd_path text false) told
