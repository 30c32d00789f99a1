-- The rule that every reader and the writer keep; this project's profile.
use Rattle.std.specs.Prelude.{◌≡◌, ℕ, List, [], ◌∷◌}
use mathlib.Core.Option.{some}
use lib.ListN.{get_elem?}
use Rattle.catalogue.specs.Histories.{History}
use Rattle.publisher.specs.Heard.{GoesOn}

-- rule: History of the published edition
-- the published history begins with each history that any reader, or the writer, has heard
abbrev pub Keeps : History → List (List History) → Type 0
Keeps now views = (seat : ℕ) (heard : List History) → get_elem? views seat ≡ some heard → GoesOn now heard

-- a step at which a history is published: it begins with all that was heard before, and is what was heard afterwards
abbrev pub Meets : List History → History → List History → Type 0
Meets before now after = (after ≡ now ∷ []) × GoesOn now before
