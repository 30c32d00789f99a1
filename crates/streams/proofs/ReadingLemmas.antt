-- What was read of known bytes up to a limit that was not reached is all of them.
use Rattle.std.proofs.Common.{◌≡◌, ℕ, ◌<◌, ◌≤◌, List, [], ◌++◌, length, take, Option, Some, None, ap, ◌∙◌, arith}
use Rattle.std.specs.Option.{IfSome, option_map}
use Rattle.std.proofs.lemmas.List.{length-take, take_all}

pub IfSome-take :
    (known : Option (List ℕ)) (limit : ℕ) (before input : List ℕ) →
    before ≡ [] →
    IfSome (option_map (take limit) known) (λ bytes. input ≡ before ++ bytes) →
    length input < limit →
    IfSome known (λ bytes. input ≡ bytes)
IfSome-take None limit before input empty cut short = cut
IfSome-take (Some bytes) limit before input empty cut short =
    let whole : input ≡ take limit bytes = cut ∙ ap (λ (front : List ℕ). front ++ take limit bytes) empty in
    let as_long = ap length whole in
    let fits : length bytes ≤ limit = omega (arith, length-take limit bytes) in
    whole ∙ take_all limit bytes fits
