-- Known bytes that are read in parts, each after the one before.
use Rattle.std.proofs.Common.{ℕ, List, [], ◌++◌, Option, Some, None, refl, sym, ap, ◌∙◌, append_assoc}
use Rattle.std.specs.Io.KnownBytes.{Consumes}

pub Consumes-none : (bytes : Option (List ℕ)) → Consumes bytes bytes []
Consumes-none None = tt
Consumes-none (Some xs) = refl

pub Consumes-then :
    (before between after : Option (List ℕ)) (first second : List ℕ) →
    Consumes before between first →
    Consumes between after second →
    Consumes before after (first ++ second)
Consumes-then None between after first second one two = tt
Consumes-then (Some xs) None after first second one two = absurd one
Consumes-then (Some xs) (Some ys) None first second one two = absurd two
Consumes-then (Some xs) (Some ys) (Some zs) first second one two =
    one ∙ ap (λ (rest : List ℕ). first ++ rest) two ∙ sym (append_assoc first second zs)
