use Rattle.std.proofs.Common.{ap, subst, sym, ◌∙◌, ◌≡◌, IfOk, List, ℕ, Option, [], map}
use Rattle.std.specs.Option.{option_map, unwrap_or}
use Rattle.clap.proofs.WalkLemmas.{raw_values-rows}
use Rattle.clap.specs.Words.{found_of}
use Rattle.omaha_arguments.proofs.options.strings_in.Goals as goal

pub returns-in-None : goal.returns-in-None
returns-in-None c =
    let told = ap (option_map (λ s. map (λ v. v.now) s.now)) (sym c.in-None.is) ∙ c.get_strs.ensures ∙ raw_values-rows (found_of c.args.matches.now) c.args.id.now in
    c.empty.ensures ∙ ap (λ (texts : Option (List (List ℕ))). unwrap_or texts []) told

pub returns-in-Some : goal.returns-in-Some
returns-in-Some c =
    let told = ap (option_map (λ s. map (λ v. v.now) s.now)) (sym c.in-Some.is) ∙ c.get_strs.ensures ∙ raw_values-rows (found_of c.args.matches.now) c.args.id.now in
    let P : List (List ℕ) → Type 0 = λ texts. IfOk c.copy_all.result (λ copies. copies ≡ texts) in
    subst P (ap (λ (texts : Option (List (List ℕ))). unwrap_or texts []) told) c.copy_all.ensures
